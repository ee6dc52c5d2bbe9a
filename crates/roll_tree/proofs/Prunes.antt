-- A walk along the names of a tree that takes out what may go.
use Rattle.std.proofs.Common.{◌≡◌, ◌≢◌, ◌⊎◌, ◌||◌, ◌&&◌, not, ℕ, zero, suc, ◌+◌, ◌<◌, List, [], ◌∷◌, ◌++◌, length, take, drop, get_or, Bool, true, false, cond, Option, Some, None, is_some, refl, sym, ap, subst, ◌∙◌, inl, inr, arith, eqb, append-nil, append_assoc, take-append-drop, length-append}
use Rattle.std.specs.List.{filter, list_all}
use Rattle.std.specs.Option.{option_map_or}
use Rattle.std.proofs.lemmas.Bool.{false≢true, cases_Bool, and_parts, and_from, or_cases, or_left, eqb-true, eq-eqb, ne_eqb}
use Rattle.std.proofs.lemmas.List.{take_more}
use Rattle.std.proofs.lemmas.List.Elements.{filter-append}
use Rattle.std.proofs.lemmas.List.Folds.{list_any-append, list_all_more, list_all_at}
use Rattle.std.proofs.lemmas.Option.{same_Some}
use Rattle.std.proofs.Math.Bool.{or-false, or-true}
use Rattle.slab.specs.Slab.{Slab, get, slab_len}
use Rattle.roll_tree.specs.Layout.{has_name, node_at, IsAfter, AreOrdered}
use Rattle.roll_tree.specs.Rule.{allows, IsLive, IsPruned}
use Rattle.roll_tree.specs.declared.node.Edge.{Edge}
use Rattle.roll_tree.specs.declared.node.Node.{Node}
use Rattle.roll_tree.specs.declared.prune.Rule.{Rule}
use Rattle.roll_tree.proofs.Names.{has_name-push, filter-same}

module _ {S : Type 0} where
  -- the name at a place comes once, and after its parent's
  pub ordered_at : (slots : List (Option (Node S))) (above names : List ℕ) → AreOrdered slots above names → (i : ℕ) → i < length names → IsAfter slots (above ++ take i names) (get_or names i 0)
  ordered_at slots above [] ordered i within = absurd (omega arith)
  ordered_at slots above (n ∷ names) ordered zero within = subst (λ (l : List ℕ). IsAfter slots l n) (sym (append-nil above)) ordered.0
  ordered_at slots above (n ∷ names) ordered (suc i) within =
      subst (λ (l : List ℕ). IsAfter slots l (get_or names i 0)) (append_assoc above (n ∷ []) (take i names)) (ordered_at slots (above ++ n ∷ []) names ordered.1 i (omega arith))

  -- each name has a node
  pub named_node : (slots : List (Option (Node S))) (above names : List ℕ) → AreOrdered slots above names → (name : ℕ) → has_name names name ≡ true → (node : Node S) × (node_at slots name ≡ Some node)
  named_node slots above [] ordered name h = absurd (false≢true h)
  named_node slots above (n ∷ names) ordered name h = go (or_cases (eqb n name) (has_name names name) h) (named_node slots (above ++ n ∷ []) names ordered.1 name)
    where
      go : (eqb n name ≡ true) ⊎ (has_name names name ≡ true) → (has_name names name ≡ true → (node : Node S) × (node_at slots name ≡ Some node)) → (node : Node S) × (node_at slots name ≡ Some node)
      go (inl same) rest = (ordered.0.node, ap (node_at slots) (sym (eqb-true n name same)) ∙ ordered.0.node_is)
      go (inr there) rest = rest there

  -- what has become of the nodes once some of the names are decided
  pub record IsPart (top : ℕ) (rule : Rule) (old now : Slab (Node S)) (taken : List ℕ) : Type 0 where
    pub nodes : (live : ℕ → Bool) → IsLive top rule old.slots live → (name : ℕ) → get now name ≡ cond (has_name taken name && not (live name)) None (get old name)
    pub rest : (name : ℕ) → has_name taken name ≡ false → get now name ≡ get old name
    pub counted : (live : ℕ → Bool) → IsLive top rule old.slots live → slab_len now + length taken ≡ slab_len old + length (filter live taken)

  pub IsPart-start : (top : ℕ) (rule : Rule) (old : Slab (Node S)) → IsPart top rule old old []
  IsPart-start top rule old = record { nodes = λ live l name. refl; rest = λ name h. refl; counted = λ live l. refl }

has_name-take : (names : List ℕ) (i name : ℕ) → has_name (take i names) name ≡ true → has_name names name ≡ true
has_name-take names i name h =
    ap (λ (l : List ℕ). has_name l name) (sym (take-append-drop i names))
    ∙ list_any-append (λ n. eqb n name) (take i names) (drop i names)
    ∙ or_left (has_name (take i names) name) (has_name (drop i names) name) h

abbrev counted_as : Bool → ℕ
counted_as true = 1
counted_as false = 0

filter-push : (live : ℕ → Bool) (names : List ℕ) (name : ℕ) → length (filter live (names ++ name ∷ [])) ≡ length (filter live names) + counted_as (live name)
filter-push live names name =
    ap (λ (l : List ℕ). length l) (filter-append live names (name ∷ []))
    ∙ length-append (filter live names) (filter live (name ∷ []))
    ∙ ap (λ (n : ℕ). length (filter live names) + n) (one (live name))
  where
    one : (b : Bool) → length (cond b (name ∷ []) []) ≡ counted_as b
    one true = refl
    one false = refl

module _ {S : Type 0} (top : ℕ) (rule : Rule) (old now : Slab (Node S)) (order : List ℕ) (ordered : AreOrdered old.slots [] order) (i : ℕ) (within : i < length order) (part : IsPart top rule old now (take i order)) where
  abbrev here : IsAfter old.slots (take i order) (get_or order i 0)
  here = ordered_at old.slots [] order ordered i within

  abbrev name : ℕ
  name = get_or order i 0

  pub untouched : get now name ≡ Some here.node
  untouched = part.rest name here.once ∙ here.node_is

  -- a node of a name that is decided is there where it stays
  there : (live : ℕ → Bool) → IsLive top rule old.slots live → (other : ℕ) → has_name (take i order) other ≡ true → is_some (get now other) ≡ live other
  there live is other h = go (named_node old.slots [] order ordered other (has_name-take order i other h)) (live other) (part.nodes live is other)
    where
      go : (node : Node S) × (node_at old.slots other ≡ Some node) → (b : Bool) → get now other ≡ cond (has_name (take i order) other && not b) None (get old other) → is_some (get now other) ≡ b
      go node true e = ap (λ (o : Option (Node S)). is_some o) (e ∙ ap (λ (t : Bool). cond (t && false) None (get old other)) h ∙ node.1)
      go node false e = ap (λ (o : Option (Node S)). is_some o) (e ∙ ap (λ (t : Bool). cond (t && true) None (get old other)) h)

  -- the decision is right
  pub decided : (live : ℕ → Bool) → IsLive top rule old.slots live → (result : Bool) → ((node : Node S) → get now name ≡ Some node → result ≡ (eqb name top || option_map_or (λ (e : Edge). is_some (get now e.parent) && allows rule node.end e.row) node.edge false)) → result ≡ live name
  decided live is result says = says here.node untouched ∙ ap (λ (b : Bool). eqb name top || b) (same here.node.edge refl) ∙ sym (is.step name here.node here.node_is)
    where
      same : (edge : Option Edge) → here.node.edge ≡ edge → option_map_or (λ (e : Edge). is_some (get now e.parent) && allows rule here.node.end e.row) edge false ≡ option_map_or (λ (e : Edge). live e.parent && allows rule here.node.end e.row) edge false
      same None e = refl
      same (Some e) is_edge = ap (λ (b : Bool). b && allows rule here.node.end e.row) (there live is e.parent (here.parent e is_edge))

  taken_is : take (i + 1) order ≡ take i order ++ name ∷ []
  taken_is = take_more order i 0 within

  -- a node that stays
  pub IsPart-stays : ((live : ℕ → Bool) → IsLive top rule old.slots live → live name ≡ true) → IsPart top rule old now (take (i + 1) order)
  IsPart-stays stays = subst (IsPart top rule old now) (sym taken_is) (record {
    nodes = λ live is other. part.nodes live is other ∙ ap (λ (b : Bool). cond b None (get old other)) (same live is other (has_name (take i order) other) (cases_Bool (eqb name other)) ∙ ap (λ (b : Bool). b && not (live other)) (sym (has_name-push (take i order) name other)));
    rest = λ other h. part.rest other (front other h);
    counted = λ live is. let old_count = part.counted live is in let one : counted_as (live name) ≡ 1 = ap (λ (b : Bool). counted_as b) (stays live is) in omega (arith, old_count, one, filter-push live (take i order) name, length-append (take i order) (name ∷ []));
  })
    where
      same : (live : ℕ → Bool) → IsLive top rule old.slots live → (other : ℕ) (b : Bool) → (eqb name other ≡ true) ⊎ (eqb name other ≡ false) → (b && not (live other)) ≡ ((b || eqb name other) && not (live other))
      same live is other true c = refl
      same live is other false (inl e) = let alive : live other ≡ true = sym (ap live (eqb-true name other e)) ∙ stays live is in rw (e, alive) refl
      same live is other false (inr e) = rw e refl

      front : (other : ℕ) → has_name (take i order ++ name ∷ []) other ≡ false → has_name (take i order) other ≡ false
      front other h = first (has_name (take i order) other) (eqb name other) (sym (has_name-push (take i order) name other) ∙ h)
        where
          first : (a b : Bool) → (a || b) ≡ false → a ≡ false
          first true b e = e
          first false b e = refl

module _ {S : Type 0} (top : ℕ) (rule : Rule) (old now after : Slab (Node S)) (order : List ℕ) (ordered : AreOrdered old.slots [] order) (i : ℕ) (within : i < length order) (part : IsPart top rule old now (take i order)) where
  abbrev gone : ℕ
  gone = get_or order i 0

  -- a node that goes
  pub IsPart-goes : ((live : ℕ → Bool) → IsLive top rule old.slots live → live gone ≡ false) → get after gone ≡ None → ((other : ℕ) → other ≢ gone → get after other ≡ get now other) → slab_len after + 1 ≡ slab_len now → IsPart top rule old after (take (i + 1) order)
  IsPart-goes dead changed others len = subst (IsPart top rule old after) (sym (take_more order i 0 within)) (record {
    nodes = λ live is other. node live is other (cases_Bool (eqb gone other));
    rest = λ other h. left other h (cases_Bool (eqb gone other));
    counted = λ live is. let old_count = part.counted live is in let none : counted_as (live gone) ≡ 0 = ap (λ (b : Bool). counted_as b) (dead live is) in omega (arith, len, old_count, none, filter-push live (take i order) gone, length-append (take i order) (gone ∷ []));
  })
    where
      apart : (other : ℕ) → eqb gone other ≡ false → other ≢ gone
      apart other e same = false≢true (sym e ∙ eq-eqb gone other (sym same))

      node : (live : ℕ → Bool) → IsLive top rule old.slots live → (other : ℕ) → (eqb gone other ≡ true) ⊎ (eqb gone other ≡ false) → get after other ≡ cond (has_name (take i order ++ gone ∷ []) other && not (live other)) None (get old other)
      node live is other (inl e) =
          let same = eqb-true gone other e in
          let dies : live other ≡ false = sym (ap live same) ∙ dead live is in
          let named : has_name (take i order ++ gone ∷ []) other ≡ true = has_name-push (take i order) gone other ∙ ap (λ (b : Bool). has_name (take i order) other || b) e ∙ or-true (has_name (take i order) other) in
          ap (get after) (sym same) ∙ changed ∙ sym (rw (named, dies) refl)
      node live is other (inr e) =
          let named : has_name (take i order ++ gone ∷ []) other ≡ has_name (take i order) other = has_name-push (take i order) gone other ∙ ap (λ (b : Bool). has_name (take i order) other || b) e ∙ or-false (has_name (take i order) other) in
          others other (apart other e) ∙ part.nodes live is other ∙ ap (λ (b : Bool). cond (b && not (live other)) None (get old other)) (sym named)

      left : (other : ℕ) → has_name (take i order ++ gone ∷ []) other ≡ false → (eqb gone other ≡ true) ⊎ (eqb gone other ≡ false) → get after other ≡ get old other
      left other h (inl e) = absurd (false≢true (sym h ∙ has_name-push (take i order) gone other ∙ ap (λ (b : Bool). has_name (take i order) other || b) e ∙ or-true (has_name (take i order) other)))
      left other h (inr e) = others other (apart other e) ∙ part.rest other (sym (has_name-push (take i order) gone other ∙ ap (λ (b : Bool). has_name (take i order) other || b) e ∙ or-false (has_name (take i order) other)) ∙ h)

module _ {S : Type 0} where
  -- what is left of the names once those without a node are dropped
  pub IsPruned-from : (top : ℕ) (rule : Rule) (old new : Slab (Node S)) (order kept : List ℕ) (live : ℕ → Bool) → AreOrdered old.slots [] order → ((name : ℕ) → get new name ≡ cond (has_name order name && not (live name)) None (get old name)) → slab_len new + length order ≡ slab_len old + length (filter live order) → kept ≡ filter (λ name. is_some (get new name)) order → IsPruned live old new order kept
  IsPruned-from top rule old new order kept live ordered nodes counted filtered = record {
    nodes = nodes;
    kept_is = filtered ∙ alike;
    counted = counted ∙ ap (λ (l : List ℕ). slab_len old + length l) (sym (filtered ∙ alike));
  }
    where
      go : (name : ℕ) → (has_name order name ≡ true) → (node : Node S) × (node_at old.slots name ≡ Some node) → (b : Bool) → get new name ≡ cond (has_name order name && not b) None (get old name) → is_some (get new name) ≡ b
      go name h node true e = ap (λ (o : Option (Node S)). is_some o) (e ∙ ap (λ (t : Bool). cond (t && false) None (get old name)) h ∙ node.1)
      go name h node false e = ap (λ (o : Option (Node S)). is_some o) (e ∙ ap (λ (t : Bool). cond (t && true) None (get old name)) h)

      alike : filter (λ name. is_some (get new name)) order ≡ filter live order
      alike = filter-same (λ name. is_some (get new name)) live order (λ name h. go name h (named_node old.slots [] order ordered name h) (live name) (nodes name))

all_named : (live : ℕ → Bool) (names : List ℕ) (k : ℕ) → list_all live names ≡ true → has_name names k ≡ true → live k ≡ true
all_named live [] k all h = absurd (false≢true h)
all_named live (n ∷ names) k all h =
    let parts = and_parts (live n) (list_all live names) all in
    elim (or_cases (eqb n k) (has_name names k) h) [
      | inl same ↦ ap live (sym (eqb-true n k same)) ∙ parts.0
      | inr there ↦ all_named live names k parts.1 there
    ]

filter_all : (live : ℕ → Bool) (names : List ℕ) → list_all live names ≡ true → filter live names ≡ names
filter_all live [] all = refl
filter_all live (n ∷ names) all =
    let parts = and_parts (live n) (list_all live names) all in
    ap (λ (b : Bool). cond b (n ∷ filter live names) (filter live names)) parts.0 ∙ ap (λ (l : List ℕ). n ∷ l) (filter_all live names parts.1)

module _ {S : Type 0} (top : ℕ) (rule : Rule) (slots : List (Option (Node S))) (order : List ℕ) (ordered : AreOrdered slots [] order) (i : ℕ) (within : i < length order) (live : ℕ → Bool) (is : IsLive top rule slots live) where
  abbrev next : ℕ
  next = get_or order i 0

  -- the top stays
  live_top : next ≡ top → live next ≡ true
  live_top same =
      let after = ordered_at slots [] order ordered i within in
      is.step next after.node after.node_is
      ∙ or_left (eqb next top) (option_map_or (λ (e : Edge). live e.parent && allows rule after.node.end e.row) after.node.edge false) (eq-eqb next top same)

  -- where all before it stay, another node stays where its edge may
  live_edge : list_all live (take i order) ≡ true → (next ≡ top → ⊥) → (node : Node S) → node_at slots next ≡ Some node → live next ≡ option_map_or (λ (e : Edge). allows rule node.end e.row) node.edge false
  live_edge all differs node found =
      is.step next node found
      ∙ ap (λ (b : Bool). b || option_map_or (λ (e : Edge). live e.parent && allows rule node.end e.row) node.edge false) (ne_eqb next top differs)
      ∙ go node.edge refl
    where
      go : (o : Option Edge) → node.edge ≡ o → option_map_or (λ (e : Edge). live e.parent && allows rule node.end e.row) o false ≡ option_map_or (λ (e : Edge). allows rule node.end e.row) o false
      go None e = refl
      go (Some e) edge_is =
          let after = ordered_at slots [] order ordered i within in
          let same : node ≡ after.node = same_Some _ _ (sym found ∙ after.node_is) in
          let above = after.parent e (ap (λ (n : Node S). n.edge) (sym same) ∙ edge_is) in
          ap (λ (b : Bool). b && allows rule node.end e.row) (all_named live (take i order) e.parent all above)

  pub all_with_top : list_all live (take i order) ≡ true → next ≡ top → list_all live (take (i + 1) order) ≡ true
  all_with_top all same = list_all_more live order i 0 within ∙ and_from _ _ all (live_top same)

  pub all_with_edge : list_all live (take i order) ≡ true → (next ≡ top → ⊥) → (node : Node S) → node_at slots next ≡ Some node → option_map_or (λ (e : Edge). allows rule node.end e.row) node.edge false ≡ true → list_all live (take (i + 1) order) ≡ true
  all_with_edge all differs node found allowed = list_all_more live order i 0 within ∙ and_from _ _ all (live_edge all differs node found ∙ allowed)

  pub not_all : list_all live (take i order) ≡ true → (next ≡ top → ⊥) → (node : Node S) → node_at slots next ≡ Some node → option_map_or (λ (e : Edge). allows rule node.end e.row) node.edge false ≡ false → list_all live order ≡ false
  not_all all differs node found refused = list_all_at live order i 0 within (live_edge all differs node found ∙ refused)

module _ {S : Type 0} where
  -- where all stay, nothing is to be done
  pub IsPruned-none : (old : Slab (Node S)) (order : List ℕ) (live : ℕ → Bool) → list_all live order ≡ true → IsPruned live old old order order
  IsPruned-none old order live all = record {
    nodes = λ name. go name (has_name order name) refl;
    kept_is = sym (filter_all live order all);
    counted = refl;
  }
    where
      go : (name : ℕ) (b : Bool) → has_name order name ≡ b → get old name ≡ cond (has_name order name && not (live name)) None (get old name)
      go name true h = rw (h, all_named live order name all h) refl
      go name false h = rw h refl
