-- How what is wrong with a line is told.
use Rattle.std.specs.Prelude.{ℕ, List, ◌++◌, ◌==◌, Option, Some, None, codes, if◌then◌else◌}
use Rattle.std.specs.Fmt.{decimal}
use Rattle.prog_scripts.specs.declared.diagnosis.Diagnosis.{Diagnosis}
use Rattle.prog_scripts.specs.declared.diagnosis.Diagnosis.TheVariants.{Missing, Unended, CarriageReturn, Blank, ExtraSpace, AfterEnd, UnknownCommand, FieldCount, Word, Number, OutOfRange, ListLength, NotRising, Other}
use Rattle.prog_scripts.specs.declared.diagnosis.NumberFault.{NumberFault}
use Rattle.prog_scripts.specs.declared.diagnosis.NumberFault.TheVariants.{Empty, NotDigits, LeadingZero, TooLarge}

abbrev pub why_text : NumberFault → List ℕ
why_text Empty = codes "it is empty"
why_text NotDigits = codes "not digits alone"
why_text LeadingZero = codes "a leading zero"
why_text TooLarge = codes "over 4,294,967,295"

abbrev pub length_text : ℕ → ℕ → ℕ → List ℕ
length_text found least most =
    if least == most
    then decimal found ++ (codes " in a list; " ++ (decimal least ++ codes " were expected"))
    else decimal found ++ (codes " in a list; "
    ++ (decimal least ++ (codes " to " ++ (decimal most ++ codes " were expected"))))

-- nothing is claimed of the texts in which a field of the line stands
abbrev pub diagnosis_text : Diagnosis → Option (List ℕ)
diagnosis_text Missing = Some (codes "is missing: the text ends before it")
diagnosis_text Unended = Some (codes "the last line has no LF at its end")
diagnosis_text CarriageReturn = Some (codes "ends with CR LF; LF was expected")
diagnosis_text Blank = Some (codes "is empty")
diagnosis_text (ExtraSpace column) = Some (codes "a space too many at column " ++ decimal column)
diagnosis_text AfterEnd = Some (codes "the claim ends before this line")
diagnosis_text (UnknownCommand found) = None
diagnosis_text (FieldCount found wanted) =
    Some (decimal found ++ (codes " fields; " ++ (decimal wanted ++ codes " were expected")))
diagnosis_text (Word found wanted) = None
diagnosis_text (Number found why) = None
diagnosis_text (OutOfRange found least most) =
    Some (decimal found ++ (codes " is out of range: "
    ++ (decimal least ++ (codes " to " ++ (decimal most ++ codes " was expected")))))
diagnosis_text (ListLength found least most) = Some (length_text found least most)
diagnosis_text (NotRising found before) =
    Some (decimal found ++ (codes " after "
    ++ (decimal before ++ codes " in a list that has to rise")))
diagnosis_text Other = Some (codes "another line was expected")
