-- How the program ends at words that fail.
use Rattle.std.proofs.Common.{◌≡◌, ◌∙◌, ap, inl, inr, refl, subst, string_bytes, [], ◌∷◌, MatchOption, Option, Some, None}
use Rattle.std.specs.Prelude.{option_map}
use Rattle.clap.specs.Walk.{Text}
use Rattle.clap.specs.Kinds.{HasKind, IsAmong, Kinds}
use Rattle.clap.specs.Values.{kind_of}
use Rattle.clap.specs.declared.error.Error.{Error}
use Rattle.clap.specs.declared.error.kind.ErrorKind.{ErrorKind}
use Rattle.prog_scripts.specs.declared.ending.Ending.{Ending}
use Rattle.prog_scripts.specs.declared.fault.PlayFault.{PlayFault}
use Rattle.prog_scripts.specs.declared.fault.PlayFault.TheVariants.{NoMemory}
use Rattle.rollduel.specs.Endings.{EndsRefused, EndsUnpictured, IsPrinted, IsTold, IsToldOfOne, faulted, misused, picture_after, to_save}
use Rattle.rollduel.specs.declared.picture.Done.{Done}
use Rattle.rollduel.specs.Requests.{Asked, IfRefused, live, on_text, refused}

told_of_one : (kinds : Kinds) (kind : ErrorKind) (ending : Ending) → IsAmong kind kinds → IsTold kind ending → IsToldOfOne kinds ending
told_of_one [] kind ending among told = absurd among
told_of_one (k ∷ ks) kind ending (inl same) told = inl (subst (λ (x : ErrorKind). IsTold x ending) same told)
told_of_one (k ∷ ks) kind ending (inr among) told = inr (told_of_one ks kind ending among told)

pub ends_refused : (kinds : Kinds) (error : Error) (ending : Ending) → HasKind kinds error → IsPrinted (kind_of error) ending → EndsRefused kinds ending
ends_refused [] error ending fails printed = tt
ends_refused (k ∷ ks) error ending fails (inl memory) = inl memory.1
ends_refused (k ∷ ks) error ending (inl memory) (inr told) = absurd (told.0 memory)
ends_refused (k ∷ ks) error ending (inr among) (inr told) = inr (told_of_one (k ∷ ks) (kind_of error) ending among told.1)

-- words that are taken, but for want of memory
unpictured_out : (kinds : Kinds) (error : Error) (ending : Ending) → HasKind kinds error → IsPrinted (kind_of error) ending → kinds ≡ [] → ending ≡ faulted NoMemory
unpictured_out (k ∷ ks) error ending fails printed none = absurd (cc none)
unpictured_out [] error ending (inr among) printed none = absurd among
unpictured_out [] error ending (inl memory) (inl told) none = told.1
unpictured_out [] error ending (inl memory) (inr told) none = absurd (told.0 memory)

pub unpictured_if : (asked : Asked) (ending : Ending) → ending ≡ faulted NoMemory → IfRefused asked (EndsUnpictured ending)
unpictured_if (on_text path task explain) ending out = tt
unpictured_if (live path how) ending out = tt
unpictured_if (refused fault) ending out = inr out

pub unpictured_refused : (asked : Asked) (kinds : Kinds) (error : Error) (ending : Ending) → HasKind kinds error → IsPrinted (kind_of error) ending → kinds ≡ [] → IfRefused asked (EndsUnpictured ending)
unpictured_refused asked kinds error ending fails printed none = unpictured_if asked ending (unpictured_out kinds error ending fails printed none)

-- where there is no memory for the help

pub refused_out : (kinds : Kinds) (ending : Ending) → ending ≡ faulted NoMemory → EndsRefused kinds ending
refused_out [] ending out = tt
refused_out (k ∷ ks) ending out = inl out

-- after a picture was saved, or couldn't be

no_picture_after : (fault : Option PlayFault) (path : Option Text) → picture_after fault path None ≡ None
no_picture_after (Some fault) path = refl
no_picture_after None (Some path) = refl
no_picture_after None None = refl

nothing_to_save : (done : Done) → done.picture ≡ None → to_save done ≡ None
nothing_to_save done none = ap (λ picture. picture_after done.ending.fault (option_map (λ path. path.now) done.path) (option_map string_bytes picture)) none
    ∙ no_picture_after done.ending.fault (option_map (λ path. path.now) done.path)

pub unpictured_saved : (asked : Asked) (done : Done) (ending : Ending) (Saved : Text × Text → Type 0) (A B : Type 0)
    → MatchOption (to_save done) (ending ≡ done.ending) Saved
    → IfRefused asked (λ fault. (done.ending ≡ misused) × (done.picture ≡ None) × A × B) → IfRefused asked (EndsUnpictured ending)
unpictured_saved (on_text path task explain) done ending Saved A B saved was = tt
unpictured_saved (live path how) done ending Saved A B saved was = tt
unpictured_saved (refused fault) done ending Saved A B saved was =
    let same : ending ≡ done.ending =
    subst (λ (o : Option (Text × Text)). MatchOption o (ending ≡ done.ending) Saved) (nothing_to_save done was.1) saved in
    inl (same ∙ was.0)
