-- Items of one link, one after another.
use Rattle.std.proofs.Common.{◌≡◌, ◌⊎◌, ◌∙◌, ℕ, ◌+◌, ◌≤◌, List, [], ◌∷◌, ◌++◌, length, refl, ap, sym, subst, arith, Option, None, Some, append-nil, append_assoc, length-append, inl}
use Rattle.std.specs.Prelude.{IfNone, is_some}
use Rattle.std.specs.Int.{from_bool}
use Rattle.std.specs.Option.{option_or}
use Rattle.roll_frame.specs.declared.refusal.Refusal.{Refusal}
use Rattle.roll_link.specs.Linked.{Linked, left}
use Rattle.roll_link.specs.declared.remote.Remote.{Remote}
use Rattle.roll_session.specs.Seen.{Seen, Step}
use Rattle.roll_host.specs.Heard.{AreHeard}
use Rattle.roll_host.specs.Outcomes.{Applies}
use Rattle.roll_host.specs.Pumps.{AreTaken, HoldsFor, PumpsLink}
use Rattle.roll_host.specs.declared.limits.TheConstants.{TURN_LIMIT}
use Rattle.roll_host.proofs.Hearing.{heard_more, heard_none}

taken_none : (l : Linked) → AreTaken l l []
taken_none l = record { ring = refl; ended = refl; applied = sym (append-nil l.applied); next = ([], append-nil (left l)); all = λ _. refl }

taken_more : (a b c : Linked) (xs ys : List Remote) → AreTaken a b xs → AreTaken b c ys → AreTaken a c (xs ++ ys)
taken_more a b c xs ys s t =
    record {
      ring = t.ring ∙ s.ring;
      ended = t.ended ∙ s.ended;
      applied = t.applied ∙ ap (λ (l : List Remote). l ++ ys) s.applied ∙ append_assoc a.applied xs ys;
      next = (
        s.next.0 ++ t.next.0,
        sym (append_assoc (left a) s.next.0 t.next.0) ∙ ap (λ (l : List Remote). l ++ t.next.0) s.next.1 ∙ append_assoc xs (left b) t.next.0 ∙ ap (λ (l : List Remote). xs ++ l) t.next.1 ∙ sym (append_assoc xs ys (left c)),
      );
      all = λ ended. append_assoc xs ys (left c) ∙ ap (λ (l : List Remote). xs ++ l) (t.all (s.ended ∙ ended)) ∙ s.all ended;
    }

-- some items of a link were applied
pub record Going (step : Step) (old : Seen) (before : Linked) (new : Seen) (after : Linked) (applied refused : ℕ) (why : Option Refusal) : Type 0 where
  pub items : List Remote
  pub taken : AreTaken before after items
  pub heard : AreHeard step old new items refused why
  pub count : applied ≡ length items

pub once : (why : Option Refusal) → from_bool (is_some why) ≤ 1
once None = omega arith
once (Some why) = omega arith

module _ (step : Step) (old : Seen) (before : Linked) where
  pub going_none : Going step old before old before 0 0 None
  going_none = record { items = []; taken = taken_none before; heard = heard_none step old; count = refl }

  pub going_more : (mid : Seen) (link : Linked) (new : Seen) (after : Linked) (m p : ℕ) (v w : Option Refusal) → Going step old before mid link m p v → Applies step mid link new after w → Going step old before new after (m + 1) (p + from_bool (is_some w)) (option_or w v)
  going_more mid link new after m p v w g one =
      record {
        items = g.items ++ one.item ∷ [];
        taken = taken_more before link after g.items (one.item ∷ []) g.taken one.taken;
        heard = heard_more step old mid new g.items (one.item ∷ []) p (from_bool (is_some w)) v w g.heard one.heard;
        count = omega (arith, g.count, length-append g.items (one.item ∷ []));
      }

  -- and no more of them
  pub pumped : (mid : Seen) (link : Linked) (new : Seen) (after : Linked) (m p : ℕ) (refusal held : Option Refusal) → Going step old before mid link m p refusal → new ≡ mid → AreTaken link after [] → m ≤ TURN_LIMIT
      → IfNone held ((m ≡ TURN_LIMIT) ⊎ (left after ≡ [])) → HoldsFor step new after.held held → PumpsLink step old before new after (record { applied = m; refused = p; refusal = refusal; held = held })
  pumped mid link new after m p refusal held g same t most least holds =
      let heard : AreHeard step old new g.items p refusal = subst (λ (s : Seen). AreHeard step old s g.items p refusal) (sym same) g.heard in
      record {
        items = g.items;
        turn = record {
          taken = subst (AreTaken before after) (append-nil g.items) (taken_more before link after g.items [] g.taken t);
          played = heard.played;
          most = omega (arith, g.count, most);
          least = subst (λ n. IfNone held ((n ≡ TURN_LIMIT) ⊎ (left after ≡ []))) g.count least;
          holds = holds;
        };
        heard = heard;
        count = g.count;
      }

  pub pumped_none : (mid : Seen) (link : Linked) (m p : ℕ) (refusal : Option Refusal) → Going step old before mid link m p refusal → m ≡ TURN_LIMIT → link.held ≡ None → PumpsLink step old before mid link (record { applied = m; refused = p; refusal = refusal; held = None })
  pumped_none mid link m p refusal g many free =
      pumped mid link mid link m p refusal None g refl (taken_none link) (omega (arith, many)) (inl many) (rw free tt)
