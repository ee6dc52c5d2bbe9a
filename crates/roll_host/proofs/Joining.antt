-- A link's turn after those of the links before it.
use Rattle.std.proofs.Common.{map, ◌≡◌, ◌∙◌, ℕ, ◌+◌, ◌<◌, List, [], ◌∷◌, ◌++◌, length, take, refl, ap, sym, arith, append-nil, length-append, set, get_or, Option, None}
use Rattle.std.specs.Option.{option_or}
use Rattle.std.proofs.lemmas.List.{map-append, take_more, take-set, get_or-set_same, length-set}
use Rattle.std.proofs.lemmas.Grind.{flat_map-append}
use Rattle.roll_frame.specs.declared.refusal.Refusal.{Refusal}
use Rattle.roll_link.specs.Linked.{Linked}
use Rattle.roll_link.specs.declared.remote.Remote.{Remote}
use Rattle.roll_session.specs.Seen.{Seen, Step}
use Rattle.roll_host.specs.Hosted.{rings_of}
use Rattle.roll_host.specs.Pumps.{items_of, last_held, AreLinkTurns, IsLinkTurn, IsPumped, LinkTurn, PumpsLink}
use Rattle.roll_host.specs.declared.pump.Pumped.{Pumped}
use Rattle.roll_host.proofs.Hearing.{heard_more, heard_none, or_assoc, or_nothing}

items_of_push : (turns : List LinkTurn) (turn : LinkTurn) → items_of (turns ++ turn ∷ []) ≡ items_of turns ++ turn.items
items_of_push turns turn = flat_map-append (λ (t : LinkTurn). t.items) turns (turn ∷ []) ∙ ap (λ (rest : List Remote). items_of turns ++ rest) (append-nil turn.items)

last_held_push : (turns : List LinkTurn) (turn : LinkTurn) → option_or turn.held (last_held turns) ≡ last_held (turns ++ turn ∷ [])
last_held_push [] turn = or_nothing turn.held
last_held_push (t ∷ ts) turn = sym (or_assoc turn.held (last_held ts) t.held) ∙ ap (λ (o : Option Refusal). option_or o t.held) (last_held_push ts turn)

-- so many of the first, with another in the place of the last
take_set : (links : List Linked) (k : ℕ) (l : Linked) → k < length links → take (k + 1) (set links k l) ≡ take k links ++ l ∷ []
take_set links k l h =
    let fits : k < length (set links k l) = omega (arith, length-set links k l) in
    take_more (set links k l) k l fits ∙ ap (λ (ls : List Linked). ls ++ get_or (set links k l) k l ∷ []) (take-set links k l) ∙ ap (λ (x : Linked). take k links ++ x ∷ []) (get_or-set_same links k l l h)

module _ (step : Step) where
  turns_push : (old mid new : Seen) (turns : List LinkTurn) (turn : LinkTurn) → AreLinkTurns step old turns mid → IsLinkTurn step mid new turn → AreLinkTurns step old (turns ++ turn ∷ []) new
  turns_push old mid new [] turn e one = (new, rw (← e) one, refl)
  turns_push old mid new (t ∷ ts) turn all one = (all.0, all.1, turns_push all.0 mid new ts turn all.2 one)

  pub links_none : (s : Seen) (links : List Linked) → IsPumped step s (take 0 links) s (take 0 links) (record { applied = 0; refused = 0; refusal = None; held = None })
  links_none s links = record { turns = []; before_are = refl; after_are = refl; are_turns = refl; heard = heard_none step s; count = refl; held_is = refl }

  -- links is what the links were, and now what they are after the turns of the first k of them
  pub links_more : (old : Seen) (links : List Linked) (mid : Seen) (now : List Linked) (new : Seen) (l d : Linked) (k m p : ℕ) (refusal held : Option Refusal) (more : Pumped) → k < length now → k < length links → get_or now k d ≡ get_or links k d
      → IsPumped step old (take k links) mid (take k now) (record { applied = m; refused = p; refusal = refusal; held = held }) → PumpsLink step mid (get_or now k d) new l more
      → IsPumped step old (take (k + 1) links) new (take (k + 1) (set now k l)) (record { applied = m + more.applied; refused = p + more.refused; refusal = option_or more.refusal refusal; held = option_or more.held held })
  links_more old links mid now new l d k m p refusal held more h h2 rest a one =
      let turn : LinkTurn = record { before = get_or now k d; after = l; items = one.items; held = more.held } in
      let items = items_of_push a.turns turn in
      record {
        turns = a.turns ++ turn ∷ [];
        before_are = map-append (λ (t : LinkTurn). t.before) a.turns (turn ∷ []) ∙ ap (λ (ls : List Linked). ls ++ turn.before ∷ []) a.before_are ∙ ap (λ (x : Linked). take k links ++ x ∷ []) rest ∙ sym (take_more links k d h2);
        after_are = map-append (λ (t : LinkTurn). t.after) a.turns (turn ∷ []) ∙ ap (λ (ls : List Linked). ls ++ l ∷ []) a.after_are ∙ sym (take_set now k l h);
        are_turns = turns_push old mid new a.turns turn a.are_turns one.turn;
        heard = rw items (heard_more step old mid new (items_of a.turns) one.items p more.refused refusal more.refusal a.heard one.heard);
        count = omega (arith, ap length items, length-append (items_of a.turns) one.items, a.count, one.count);
        held_is = ap (λ (o : Option Refusal). option_or more.held o) a.held_is ∙ last_held_push a.turns turn;
      }

  turns_rings : (old new : Seen) (turns : List LinkTurn) → AreLinkTurns step old turns new → rings_of (map (λ turn. turn.after) turns) ≡ rings_of (map (λ turn. turn.before) turns)
  turns_rings old new [] all = refl
  turns_rings old new (turn ∷ turns) all = λ i. all.1.taken.ring i ∷ turns_rings all.0 new turns all.2 i

  -- the links stay which they are
  pub pumped_rings : (old new : Seen) (links after : List Linked) (did : Pumped) → IsPumped step old links new after did → rings_of after ≡ rings_of links
  pumped_rings old new links after did p =
      ap rings_of (sym p.after_are) ∙ turns_rings old new p.turns p.are_turns ∙ ap rings_of p.before_are
