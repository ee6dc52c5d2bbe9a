-- What waits goes on to be parcels, datagram by datagram.
use Rattle.std.proofs.Common.{◌≡◌, ◌∙◌, ℕ, zero, suc, ◌<◌, true, List, [], ◌∷◌, ◌++◌, length, get_or, map, take, ap, sym, subst, arith, append-nil}
use Rattle.std.specs.Prelude.{nat_le, nat_lt, slice_set, All, ◌+◌}
use Rattle.std.specs.List.{refill}
use Rattle.std.proofs.lemmas.Bool.{and_parts, ltb-true}
use Rattle.std.proofs.lemmas.List.{drop_all, length-map, length-set, take_all}
use Rattle.std.proofs.lemmas.List.Elements.{All-append, All-set}
use Rattle.roll_carry.specs.declared.limits.TheConstants.{AREA_LIMIT}
use Rattle.roll_carry.specs.Reading.{IsArea}
use Rattle.roll_carry.specs.Spelling.{parcel_text, IsParcel, ParcelValue}
use Rattle.roll_carry.specs.Waiting.{area_of, has_room, size_of, Lane}
use Rattle.roll_carry.proofs.Fronts.{area_more, area_none}

module _ {X : Type 0} (items : X → List ℕ) where
  abbrev AreAreas : List X → Type 0
  AreAreas xs = All (λ (x : X). IsArea (items x)) xs

  refill_same : (xs ws : List X) → length ws ≡ length xs → refill (length xs) xs ws ≡ ws
  refill_same xs ws many =
      ap (take (length xs)) (ap (λ (rest : List X). ws ++ rest) (drop_all (length ws) xs (omega (arith, many))) ∙ append-nil ws)
      ∙ take_all (length xs) ws (omega (arith, many))

  place_in : (xs : List X) (lane : Lane) (p : ParcelValue) (place : ℕ) → map items xs ≡ lane → has_room lane p place ≡ true
      → place < length xs
  place_in xs lane p place is room =
      omega (
        arith,
        ap length is,
        length-map xs items,
        ltb-true place (length lane) (and_parts (nat_lt place (length lane)) (nat_le (length (area_of lane place) + size_of p) AREA_LIMIT) room).0,
      )

  pub all_added : (xs now : List X) (lane : Lane) (place : ℕ) (new d : X) (p : ParcelValue) → now ≡ xs → AreAreas xs
      → map items xs ≡ lane → has_room lane p place ≡ true → items new ≡ items (get_or now place d) ++ parcel_text p
      → IsParcel p → AreAreas (refill (length xs) xs (slice_set now place new))
  all_added xs now lane place new d p same all is room text fits =
      let low : place < length xs = place_in xs lane p place is room in
      let old : IsArea (items (get_or now place d)) =
      subst (λ (ys : List X). IsArea (items (get_or ys place d))) (sym same) (all place d low) in
      let more : IsArea (items new) = subst IsArea (sym text) (area_more (items (get_or now place d)) p old fits) in
      let set : AreAreas (slice_set now place new) =
      All-set (λ (x : X). IsArea (items x)) now place new more (subst AreAreas (sym same) all) in
      subst AreAreas (sym (refill_same xs (slice_set now place new) (length-set now place new ∙ ap length same))) set

  pub all_pushed : (xs ys : List X) (new : X) (bytes : List ℕ) (p : ParcelValue) → ys ≡ xs ++ new ∷ [] → AreAreas xs
      → bytes ≡ [] → items new ≡ bytes ++ parcel_text p → IsParcel p → AreAreas ys
  all_pushed xs ys new bytes p is all none text fits =
      subst AreAreas (sym is) (All-append (λ (x : X). IsArea (items x)) xs (new ∷ []) all only)
    where
      more : IsArea (items new)
      more = subst IsArea (sym (text ∙ ap (λ (bs : List ℕ). bs ++ parcel_text p) none)) (area_more [] p area_none fits)

      only : AreAreas (new ∷ [])
      only zero d low = more
      only (suc k) d low = absurd (omega (arith, low))
