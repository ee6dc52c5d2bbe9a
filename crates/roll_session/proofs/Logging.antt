-- What a log's slots tell where a graft is added.
use Rattle.std.proofs.Common.{◌≡◌, ◌<◌, ◌∙◌, ◌++◌, ◌∷◌, [], ℕ, List, Some, All, ap, arith, length, length-append, map, refl, sym}
use Rattle.std.specs.Option.{option_map_or}
use Rattle.std.specs.Prelude.{Option, slice_get}
use Rattle.std.proofs.lemmas.List.{get_or_append_left, map-append}
use Rattle.std.proofs.lemmas.List.Elements.{All-head, All-tail}
use Rattle.std.proofs.lemmas.Option.{slice_get-get_or}
use Rattle.std.proofs.Math.Seq.{get_or-append_seam}
use Rattle.roll_frame.specs.declared.entry.Entry.{Entry}
use Rattle.roll_frame.specs.declared.entry.Entry.TheVariants.{Graft, Sync}
use Rattle.roll_session.specs.Logs.{IsWithin, entry_in}
use Rattle.roll_session.specs.declared.log.Origin.{Origin}
use Rattle.roll_session.specs.declared.log.Slot.{Slot}
use Rattle.roll_session.specs.declared.log.Slot.TheVariants.{Graft as GraftSlot}

-- the entry of a graft of this origin, if there is one
abbrev graft_of : Option Origin → Entry
graft_of origin = option_map_or (λ origin. Graft origin.ticket origin.route) origin Sync

-- the grafts keep their places where one more is added
kept : (grafts : List Origin) (more : Origin) (place : ℕ) → place < length grafts → slice_get (grafts ++ more ∷ []) place ≡ slice_get grafts place
kept grafts more place there =
    slice_get-get_or (grafts ++ more ∷ []) place more (omega (arith, there, length-append grafts (more ∷ []))) ∙ ap Some (get_or_append_left grafts (more ∷ []) more place there) ∙ sym (slice_get-get_or grafts place more there)

added : (grafts : List Origin) (more : Origin) → slice_get (grafts ++ more ∷ []) (length grafts) ≡ Some more
added grafts more =
    slice_get-get_or (grafts ++ more ∷ []) (length grafts) more (omega (arith, length-append grafts (more ∷ []))) ∙ ap Some (get_or-append_seam grafts more [] more)

-- so does what a slot tells
same_entry : (grafts : List Origin) (more : Origin) (slot : Slot) → IsWithin (length grafts) slot → entry_in (grafts ++ more ∷ []) slot ≡ entry_in grafts slot
same_entry grafts more (GraftSlot place) there = ap graft_of (kept grafts more place there)
same_entry grafts more slot there = refl

same_entries : (grafts : List Origin) (more : Origin) (slots : List Slot) → All (IsWithin (length grafts)) slots → map (entry_in (grafts ++ more ∷ [])) slots ≡ map (entry_in grafts) slots
same_entries grafts more [] there = refl
same_entries grafts more (slot ∷ slots) there =
    let within = IsWithin (length grafts) in
    cc (same_entry grafts more slot (All-head within slot slots there), same_entries grafts more slots (All-tail within slot slots there))

-- a graft and its slot add its entry
pub graft_entered : (grafts : List Origin) (more : Origin) (slots : List Slot) → All (IsWithin (length grafts)) slots
    → map (entry_in (grafts ++ more ∷ [])) (slots ++ GraftSlot (length grafts) ∷ []) ≡ map (entry_in grafts) slots ++ Graft more.ticket more.route ∷ []
graft_entered grafts more slots there =
    map-append (entry_in (grafts ++ more ∷ [])) slots (GraftSlot (length grafts) ∷ [])
    ∙ ap (λ (told : List Entry). told ++ entry_in (grafts ++ more ∷ []) (GraftSlot (length grafts)) ∷ []) (same_entries grafts more slots there)
    ∙ ap (λ (o : Option Origin). map (entry_in grafts) slots ++ graft_of o ∷ []) (added grafts more)
