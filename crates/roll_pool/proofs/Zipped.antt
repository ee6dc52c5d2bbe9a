-- Two lists in which a relation holds place by place.
use Rattle.std.proofs.Common.{◌≡◌, List, [], ◌∷◌, ◌++◌, refl}
use Rattle.std.specs.List.{AllZip}

module _ {A B : Type 0} (R : A → B → Type 0) where
  pub zip_append : (xs xs' : List A) (ys ys' : List B) → AllZip R xs ys → AllZip R xs' ys' → AllZip R (xs ++ xs') (ys ++ ys')
  zip_append [] xs' [] ys' h h' = h'
  zip_append [] xs' (y ∷ ys) ys' h h' = absurd h
  zip_append (x ∷ xs) xs' [] ys' h h' = absurd h
  zip_append (x ∷ xs) xs' (y ∷ ys) ys' h h' = (h.0, zip_append xs xs' ys ys' h.1 h')

  -- the part that goes with the first of two lists, and the part that goes with the second
  pub zip_parts : (xs : List A) (ys ys' : List B) → AllZip R xs (ys ++ ys') → (first : List A) × (rest : List A) × (xs ≡ first ++ rest) × AllZip R first ys × AllZip R rest ys'
  zip_parts xs [] ys' h = ([], xs, refl, tt, h)
  zip_parts [] (y ∷ ys) ys' h = absurd h
  zip_parts (x ∷ xs) (y ∷ ys) ys' h =
      let more = zip_parts xs ys ys' h.1 in
      (x ∷ more.0, more.1, (λ i. x ∷ more.2 i), (h.0, more.3), more.4)
