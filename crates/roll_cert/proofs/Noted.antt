-- Flags of the states that entries name.
use Rattle.std.proofs.Common.{◌≡◌, ◌⊎◌, ◌||◌, ◌<◌, ◌≤◌, ◌≢◌, ℕ, List, [], ◌∷◌, ◌++◌, set, replicate, Bool, true, false, Some, nat_eq, sym, ap, ◌∙◌, inl, inr, arith, length, subst}
use Rattle.std.specs.Prelude.{slice_get}
use Rattle.std.specs.List.{list_any}
use Rattle.std.proofs.lemmas.Bool.Decides.{eqb_tells}
use Rattle.std.proofs.lemmas.List.{length-replicate, get_or-replicate, length-set, get_or-set_same, get_or-set_other}
use Rattle.std.proofs.lemmas.List.Folds.{list_any-append}
use Rattle.std.proofs.lemmas.Option.{slice_get-get_or, slice_get_within, get_or_from_slice_get}
use Rattle.std.proofs.Math.Bool.{or-false, or-true}
use Rattle.roll_frame.specs.declared.limits.TheConstants.{TREE_LIMIT}
use Rattle.roll_frame.specs.declared.claim.Differ.{Differ}
use Rattle.roll_frame.specs.Claims.{is_for}
use Rattle.roll_cert.specs.Checked.{IsNoted}

none_at : (n state : ℕ) → state < n → slice_get (replicate n false) state ≡ Some false
none_at n state h = slice_get-get_or (replicate n false) state false (subst (λ (k : ℕ). state < k) (sym (length-replicate n false)) h) ∙ ap Some (get_or-replicate n state false false h)

pub noted_none : IsNoted (replicate TREE_LIMIT false) []
noted_none = record { each = none_at TREE_LIMIT }

names-push : (entries : List Differ) (entry : Differ) (state : ℕ) → list_any (is_for state) (entries ++ entry ∷ []) ≡ (list_any (is_for state) entries || nat_eq entry.state state)
names-push entries entry state = list_any-append (is_for state) entries (entry ∷ []) ∙ ap (λ (b : Bool). list_any (is_for state) entries || b) (or-false (nat_eq entry.state state))

-- an entry that names no state with a flag changes none
names-other : (entries : List Differ) (entry : Differ) (state : ℕ) → nat_eq entry.state state ≡ false → list_any (is_for state) (entries ++ entry ∷ []) ≡ list_any (is_for state) entries
names-other entries entry state e = names-push entries entry state ∙ ap (λ (b : Bool). list_any (is_for state) entries || b) e ∙ or-false (list_any (is_for state) entries)

names-same : (entries : List Differ) (entry : Differ) (state : ℕ) → nat_eq entry.state state ≡ true → list_any (is_for state) (entries ++ entry ∷ []) ≡ true
names-same entries entry state e = names-push entries entry state ∙ ap (λ (b : Bool). list_any (is_for state) entries || b) e ∙ or-true (list_any (is_for state) entries)

set_other : (flags : List Bool) (at state : ℕ) (old b : Bool) → state ≢ at → slice_get flags state ≡ Some b → slice_get (set flags at old) state ≡ Some b
set_other flags at state old b h there =
    let within : state < length flags = slice_get_within flags state b there in
    slice_get-get_or (set flags at old) state false (omega (arith, length-set flags at old))
    ∙ ap Some (get_or-set_other flags at state old false h ∙ get_or_from_slice_get flags state b false there)

set_same : (flags : List Bool) (at : ℕ) (new b : Bool) → slice_get flags at ≡ Some b → slice_get (set flags at new) at ≡ Some new
set_same flags at new b there =
    let within : at < length flags = slice_get_within flags at b there in
    slice_get-get_or (set flags at new) at false (omega (arith, length-set flags at new))
    ∙ ap Some (get_or-set_same flags at new false within)

noted-at : (flags : List Bool) (entries : List Differ) (entry : Differ) → IsNoted flags entries → (state : ℕ) → state < TREE_LIMIT
    → ((nat_eq entry.state state ≡ true) × (entry.state ≡ state)) ⊎ ((nat_eq entry.state state ≡ false) × (entry.state ≢ state))
    → slice_get (set flags entry.state true) state ≡ Some (list_any (is_for state) (entries ++ entry ∷ []))
noted-at flags entries entry noted state below (inl same) =
    subst (λ (k : ℕ). slice_get (set flags k true) state ≡ Some (list_any (is_for state) (entries ++ entry ∷ []))) (sym same.1)
    (set_same flags state true (list_any (is_for state) entries) (noted.each state below) ∙ ap Some (sym (names-same entries entry state same.0)))
noted-at flags entries entry noted state below (inr other) =
    set_other flags entry.state state true (list_any (is_for state) entries) (λ e. other.1 (sym e)) (noted.each state below)
    ∙ ap Some (sym (names-other entries entry state other.0))

pub noted-more : (flags : List Bool) (entries : List Differ) (entry : Differ) → IsNoted flags entries → IsNoted (set flags entry.state true) (entries ++ entry ∷ [])
noted-more flags entries entry noted = record { each = λ state below. noted-at flags entries entry noted state below (eqb_tells entry.state state) }

past-at : (flags : List Bool) (entries : List Differ) (entry : Differ) → IsNoted flags entries → TREE_LIMIT ≤ entry.state → (state : ℕ) → state < TREE_LIMIT
    → ((nat_eq entry.state state ≡ true) × (entry.state ≡ state)) ⊎ ((nat_eq entry.state state ≡ false) × (entry.state ≢ state))
    → slice_get flags state ≡ Some (list_any (is_for state) (entries ++ entry ∷ []))
past-at flags entries entry noted past state below (inl same) = absurd (omega arith)
past-at flags entries entry noted past state below (inr other) = noted.each state below ∙ ap Some (sym (names-other entries entry state other.0))

pub noted-past : (flags : List Bool) (entries : List Differ) (entry : Differ) → IsNoted flags entries → TREE_LIMIT ≤ entry.state → IsNoted flags (entries ++ entry ∷ [])
noted-past flags entries entry noted past = record { each = λ state below. past-at flags entries entry noted past state below (eqb_tells entry.state state) }
