-- A row's words and bits, taken apart into cells and packed again, are the same.
use Rattle.std.specs.Prelude.{◌≡◌, ℕ, zero, suc, ◌/◌, ◌%◌, ◌<◌, List, [], ◌∷◌, length, ◌==◌, cond, Bool, true, false, refl}
use Rattle.std.proofs.Common.{arith, ap, sym, subst, eqb}
use Rattle.std.proofs.lemmas.Bool.Decides.{nat_tests}
use Rattle.roll_frame.specs.declared.row.Cell.TheVariants.{Word, Gone}
use Rattle.roll_frame.specs.declared.row.Row.TheInside.{Inside}
use Rattle.roll_frame.specs.declared.limits.TheConstants.{PLAYER_LIMIT}
use Rattle.roll_frame.specs.Words.{word_of, bit_of}
use Rattle.roll_frame.specs.Packed.{cell_of, cells_of, AllZero, IsTidy, words_of, bits_of, IsPacked, packed}

bit_from : (b : Bool) (bit word : ℕ) → eqb bit 1 ≡ b → bit < 2 → bit_of (cond b Gone (Word word)) ≡ bit
bit_from true bit word e h = grind (arith, nat_tests)
bit_from false bit word e h = grind (arith, nat_tests)

bit_back : (gone word : ℕ) → bit_of (cell_of gone word) ≡ gone % 2
bit_back gone word = bit_from (eqb (gone % 2) 1) (gone % 2) word refl (omega arith)

pub bits_back : (n gone : ℕ) (words : List ℕ) → IsTidy n gone words → bits_of (cells_of n gone words) ≡ gone
bits_back zero gone words h = sym h.0
bits_back (suc n) gone [] h = absurd h
bits_back (suc n) gone (word ∷ words) h = omega (arith, bit_back gone word, bits_back n (gone / 2) words h.1)

zeros_back : (words : List ℕ) → AllZero words → words_of (length words) [] ≡ words
zeros_back [] h = refl
zeros_back (word ∷ words) h = rw (h.0, zeros_back words h.1) refl

word_from : (b : Bool) (word : ℕ) → (b ≡ true → word ≡ 0) → word_of (cond b Gone (Word word)) ≡ word
word_from true word h = sym (h refl)
word_from false word h = refl

pub word_back : (gone word : ℕ) → ((gone % 2 == 1) ≡ true → word ≡ 0) → word_of (cell_of gone word) ≡ word
word_back gone word h = word_from (eqb (gone % 2) 1) word h

pub words_back : (n gone : ℕ) (words : List ℕ) → IsTidy n gone words → words_of (length words) (cells_of n gone words) ≡ words
words_back zero gone words h = zeros_back words h.1
words_back (suc n) gone [] h = absurd h
words_back (suc n) gone (word ∷ words) h = rw (word_back gone word h.0, words_back n (gone / 2) words h.1) refl

pub count_back : (n gone : ℕ) (words : List ℕ) → IsTidy n gone words → length (cells_of n gone words) ≡ n
count_back zero gone words h = refl
count_back (suc n) gone [] h = absurd h
count_back (suc n) gone (word ∷ words) h = ap suc (count_back n (gone / 2) words h.1)

eight_back : (n gone : ℕ) (words : List ℕ) → length words ≡ PLAYER_LIMIT → IsTidy n gone words → words_of PLAYER_LIMIT (cells_of n gone words) ≡ words
eight_back n gone words e h = subst (λ (k : ℕ). words_of k (cells_of n gone words) ≡ words) e (words_back n gone words h)

pub packed_is : (r : Inside) → IsPacked r → packed (cells_of r.count r.gone r.words) ≡ r
packed_is r h = λ i. record {
  words = eight_back r.count r.gone r.words h.eight h.tidy i;
  gone = bits_back r.count r.gone r.words h.tidy i;
  count = count_back r.count r.gone r.words h.tidy i;
}
