-- The front, the settled frame, and cores later on.
use Rattle.std.proofs.Common.{◌≡◌, ℕ, zero, suc, ◌<◌, ◌≤◌, List, [], ◌∷◌, length, refl, sym, ◌∙◌, true, false, arith, subst, inl, inr, min, map}
use Rattle.std.specs.Prelude.{◌⊎◌, not, filter}
use Rattle.std.proofs.lemmas.Bool.{false≢true, cases_Bool}
use Rattle.roll_frame.specs.Cells.{Rows}
use Rattle.roll_frame.specs.Core.{Core, is_known, settled, depth}
use Rattle.roll_frame.specs.Paths.{begins_with}
use Rattle.roll_frame.specs.Timeline.{Player, timeline, least_of, front}
use Rattle.roll_frame.proofs.Timelines.{length_timeline}
use Rattle.roll_laws.proofs.Known.{known_confirmed, known_gone, AllKnown}
use Rattle.roll_laws.proofs.Ahead.{AllLater, all_later_same, all_later_trans, longer, known_row_stays}
use Rattle.roll_laws.proofs.Predicted.{not_gone}
use Rattle.roll_laws.proofs.Saved.{In, longest_at_least, longest_is, IsLength, take_timeline, timeline_on_time, time_begins}

AllOver : ℕ → List ℕ → Type 0
AllOver n [] = Unit {0}
AllOver n (x ∷ xs) = (n ≤ x) × AllOver n xs

lower : (n m : ℕ) (xs : List ℕ) → n ≤ m → AllOver m xs → AllOver n xs
unfolding AllOver
lower n m [] h a = tt
lower n m (x ∷ xs) h a = (omega (arith, a.0), lower n m xs h a.1)

least_over : (xs : List ℕ) → AllOver (least_of xs) xs
unfolding AllOver
least_over [] = tt
least_over (x ∷ []) = (omega arith, tt)
least_over (x ∷ y ∷ ys) = (omega arith, lower (min x (least_of (y ∷ ys))) (least_of (y ∷ ys)) (y ∷ ys) (omega arith) (least_over (y ∷ ys)))

least_greatest : (n : ℕ) (xs : List ℕ) → 1 ≤ length xs → AllOver n xs → n ≤ least_of xs
unfolding AllOver
least_greatest n [] h a = absurd (omega arith)
least_greatest n (x ∷ []) h a = a.0
least_greatest n (x ∷ y ∷ ys) h a = let r : n ≤ least_of (y ∷ ys) = least_greatest n (y ∷ ys) (omega arith) a.1 in let s : n ≤ x = a.0 in omega arith

-- who is not gone has at least n words
abbrev pub AllReach : ℕ → List Player → Type 0
AllReach n [] = Unit {0}
AllReach n (p ∷ ps) = (p.gone ≡ false → n ≤ length p.words) × AllReach n ps

abbrev pub HasStaying : List Player → Type 0
HasStaying [] = ⊥
HasStaying (p ∷ ps) = (p.gone ≡ false) ⊎ HasStaying ps

abbrev counts : List Player → List ℕ
counts ps = map (λ player. length player.words) (filter (λ player. not player.gone) ps)

counts_gone : (p : Player) (ps : List Player) → p.gone ≡ true → counts (p ∷ ps) ≡ counts ps
counts_gone p ps e = rw e refl

counts_stays : (p : Player) (ps : List Player) → p.gone ≡ false → counts (p ∷ ps) ≡ length p.words ∷ counts ps
counts_stays p ps e = rw e refl

reach_from_over : (n : ℕ) (ps : List Player) → AllOver n (counts ps) → AllReach n ps
unfolding AllOver
reach_from_over n [] h = tt
reach_from_over n (p ∷ ps) h = go (cases_Bool p.gone) (reach_from_over n ps)
  where
    go : (p.gone ≡ true) ⊎ (p.gone ≡ false) → (AllOver n (counts ps) → AllReach n ps) → AllReach n (p ∷ ps)
    go (inl e) rest = (λ f. absurd (false≢true (sym f ∙ e)), rest (subst (AllOver n) (counts_gone p ps e) h))
    go (inr e) rest = let k : AllOver n (length p.words ∷ counts ps) = subst (AllOver n) (counts_stays p ps e) h in (λ f. k.0, rest k.1)

over_from_reach : (n : ℕ) (ps : List Player) → AllReach n ps → AllOver n (counts ps)
unfolding AllOver
over_from_reach n [] h = tt
over_from_reach n (p ∷ ps) h = go (cases_Bool p.gone) (over_from_reach n ps h.1)
  where
    go : (p.gone ≡ true) ⊎ (p.gone ≡ false) → AllOver n (counts ps) → AllOver n (counts (p ∷ ps))
    go (inl e) rest = subst (AllOver n) (sym (counts_gone p ps e)) rest
    go (inr e) rest = subst (AllOver n) (sym (counts_stays p ps e)) (h.0 e, rest)

some_count : (ps : List Player) → HasStaying ps → 1 ≤ length (counts ps)
some_count [] h = absurd h
some_count (p ∷ ps) h = go (cases_Bool p.gone) h (some_count ps)
  where
    go : (p.gone ≡ true) ⊎ (p.gone ≡ false) → (p.gone ≡ false) ⊎ HasStaying ps → (HasStaying ps → 1 ≤ length (counts ps)) → 1 ≤ length (counts (p ∷ ps))
    go (inr e) s rest = rw (counts_stays p ps e) (omega arith)
    go (inl e) (inl f) rest = absurd (false≢true (sym f ∙ e))
    go (inl e) (inr s) rest = rw (counts_gone p ps e) (rest s)

pub front_reach : (ps : List Player) → AllReach (front ps) ps
front_reach ps = reach_from_over (front ps) ps (least_over (counts ps))

pub front_greatest : (n : ℕ) (ps : List Player) → HasStaying ps → AllReach n ps → n ≤ front ps
front_greatest n ps s h = least_greatest n (counts ps) (some_count ps s) (over_from_reach n ps h)

reach_later : (n : ℕ) (olds news : List Player) → AllLater olds news → AllReach n olds → AllReach n news
reach_later n [] [] l h = tt
reach_later n [] (y ∷ ys) l h = absurd l
reach_later n (x ∷ xs) [] l h = absurd l
reach_later n (x ∷ xs) (y ∷ ys) l h =
    (λ f. let r : n ≤ length x.words = h.0 (not_gone x y l.0 f) in omega (arith, longer x y l.0), reach_later n xs ys l.1 h.1)

-- the front never falls
pub front_later : (olds news : List Player) → AllLater olds news → HasStaying news → front olds ≤ front news
front_later olds news l s = front_greatest (front olds) news s (reach_later (front olds) olds news l (front_reach olds))

known_below : (t n : ℕ) (ps : List Player) → t < n → AllReach n ps → AllKnown t ps
known_below t n [] h r = tt
known_below t n (p ∷ ps) h r = (go (cases_Bool p.gone), known_below t n ps h r.1)
  where
    go : (p.gone ≡ true) ⊎ (p.gone ≡ false) → is_known t p ≡ true
    go (inl e) = known_gone t p e
    go (inr e) = let l : n ≤ length p.words = r.0 e in known_confirmed t p (omega arith)

-- all cells below the front are known
pub known_below_front : (t : ℕ) (ps : List Player) → t < front ps → AllKnown t ps
known_below_front t ps h = known_below t (front ps) ps h (front_reach ps)

-- the timeline below the front never changes
pub timeline_stays : (k : ℕ) (olds news : List Player) → AllLater olds news → k ≤ front olds → timeline news k ≡ timeline olds k
timeline_stays zero olds news l h = refl
timeline_stays (suc k) olds news l h =
    cc (timeline_stays k olds news l (omega arith), known_row_stays k olds news l (known_below_front k olds (omega arith)))

-- where a roll starts: at a saved path, and none longer is the timeline's
pub depth_is : (core : Core) (m : ℕ) → In [] core.ever → (depth core m ≤ m) × In (timeline core.players (depth core m)) core.ever
depth_is core m root = go (depth core m) (longest_is core.ever (timeline core.players m))
  where
    go : (n : ℕ) → IsLength core.ever (timeline core.players m) n → (n ≤ m) × In (timeline core.players n) core.ever
    go n (inl e) = (omega arith, subst (λ (k : ℕ). In (timeline core.players k) core.ever) (sym e) root)
    go n (inr h) =
        let l : n ≤ m = omega (arith, h.1, length_timeline core.players m) in
        (l, subst (λ (q : Rows). In q core.ever) (take_timeline core.players n m l) h.0)

pub depth_at_least : (core : Core) (m k : ℕ) → k ≤ m → In (timeline core.players k) core.ever → k ≤ depth core m
depth_at_least core m k l i =
    let n = length_timeline core.players k in
    let b : begins_with (timeline core.players m) (timeline core.players k) ≡ true = time_begins core.players m (timeline core.players k) (timeline_on_time core.players k) (omega arith) in
    omega (arith, n, longest_at_least core.ever (timeline core.players m) (timeline core.players k) i b)

pub settled_is : (core : Core) → In [] core.ever → (settled core ≤ min (front core.players) core.frame) × In (timeline core.players (settled core)) core.ever
settled_is core root = depth_is core (min (front core.players) core.frame) root

-- a core later on
pub record Onward (old new : Core) : Type 0 where
  pub players : AllLater old.players new.players
  pub ever : (q : Rows) → In q old.ever → In q new.ever
  pub frame : old.frame ≤ new.frame

pub onward_same : (core : Core) → Onward core core
onward_same core = record { players = all_later_same core.players; ever = λ q h. h; frame = omega arith }

pub onward_trans : (a b c : Core) → Onward a b → Onward b c → Onward a c
onward_trans a b c x y = record {
  players = all_later_trans a.players b.players c.players x.players y.players;
  ever = λ q h. y.ever q (x.ever q h);
  frame = omega (arith, x.frame, y.frame);
}

-- the settled frame never falls
pub settled_onward : (old new : Core) → Onward old new → In [] old.ever → HasStaying new.players → settled old ≤ settled new
settled_onward old new o root s =
    let f = settled_is old root in
    let low : settled old ≤ min (front old.players) old.frame = f.0 in
    let up : front old.players ≤ front new.players = front_later old.players new.players o.players s in
    let same : timeline new.players (settled old) ≡ timeline old.players (settled old) = timeline_stays (settled old) old.players new.players o.players (omega arith) in
    depth_at_least new (min (front new.players) new.frame) (settled old) (omega (arith, o.frame)) (subst (λ (q : Rows). In q new.ever) (sym same) (o.ever (timeline old.players (settled old)) f.1))
