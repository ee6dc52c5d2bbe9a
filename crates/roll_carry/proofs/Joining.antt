-- What goes straight to a machine waits for it, or is left where it is.
use Rattle.std.proofs.Common.{◌≡◌, ◌∙◌, ℕ, Bool, true, false, List, [], length, ap, refl, sym}
use Rattle.std.specs.Prelude.{◌&&◌, nat_lt, slice_set, if◌then◌else◌}
use Rattle.std.proofs.lemmas.Bool.{ltb-false}
use Rattle.std.proofs.lemmas.List.{set-get_or, set_past}
use Rattle.roll_mesh.specs.Machines.{is_in}
use Rattle.roll_carry.specs.Carrying.{after_joined, has_company, joins, own_parcel, waiting_for, Carrying}
use Rattle.roll_carry.specs.Spelling.{ParcelValue}
use Rattle.roll_carry.specs.Waiting.{has_place, lane_of, place_for, pushed, put_at, waiting_with, Lane}

-- what has no place changes nothing
left_so : (machines : ℕ) (lanes : List Lane) (hop : ℕ) (p : ParcelValue) (fits : Bool) → has_place machines (lane_of lanes hop) p ≡ fits
    → (nat_lt hop (length lanes) && fits) ≡ false → waiting_with machines lanes hop p ≡ lanes
left_so machines lanes hop p false none e =
    ap (slice_set lanes hop) (ap (λ (b : Bool). if b then put_at (lane_of lanes hop) p (place_for (lane_of lanes hop) p) else lane_of lanes hop) none)
    ∙ set-get_or lanes hop []
left_so machines lanes hop p true some e =
    set_past lanes hop (pushed machines (lane_of lanes hop) p) (ltb-false hop (length lanes) (past (nat_lt hop (length lanes)) e))
  where
    past : (b : Bool) → (b && true) ≡ false → b ≡ false
    past true e = e
    past false e = refl

pub joined_is : (here : Carrying) (shut : List Bool) (to : ℕ) (tail : List ℕ) → is_in shut to ≡ false
    → has_company here shut to ≡ true → waiting_for here to (own_parcel to 0 tail) ≡ after_joined here shut to tail
joined_is here shut to tail out company =
    go (nat_lt to (length here.lanes) && has_place here.map.machines (lane_of here.lanes to) (own_parcel to 0 tail)) refl
  where
    p : ParcelValue
    p = own_parcel to 0 tail

    both : joins here shut to tail ≡ (nat_lt to (length here.lanes) && has_place here.map.machines (lane_of here.lanes to) p)
    both = rw (out, company) refl

    go : (b : Bool) → (nat_lt to (length here.lanes) && has_place here.map.machines (lane_of here.lanes to) p) ≡ b
        → waiting_for here to p ≡ after_joined here shut to tail
    go true e = sym (ap (λ (b : Bool). if b then waiting_for here to p else here) (both ∙ e))
    go false e =
        ap (λ (ls : List Lane). record here { lanes = ls })
        (left_so here.map.machines here.lanes to p (has_place here.map.machines (lane_of here.lanes to) p) refl e)
        ∙ sym (ap (λ (b : Bool). if b then waiting_for here to p else here) (both ∙ e))
