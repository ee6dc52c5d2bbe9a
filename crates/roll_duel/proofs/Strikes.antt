-- What a bullet does to the ships, one after another.
use Rattle.std.proofs.Common.{◌≡◌, ℕ, zero, suc, ◌+◌, ◌<◌, ◌≤◌, Bool, true, false, cond, List, [], ◌∷◌, length, get_or, take, drop, set, refl, sym, ap, ◌∙◌, arith, add-one, add-zero, get_or-drop, subst}
use Rattle.std.specs.Prelude.{not, ◌&&◌, nat_lt, fold, All}
use Rattle.std.proofs.lemmas.Bool.{lt-ltb, le-ltb, or_parts}
use Rattle.std.proofs.lemmas.List.Elements.{All-set}
use Rattle.std.proofs.lemmas.List.{take_more}
use Rattle.std.proofs.lemmas.Grind.{fold-append}
use Rattle.roll_duel.specs.declared.ship.Ship.{Ship}
use Rattle.roll_duel.specs.declared.bullet.Bullet.{Bullet}
use Rattle.roll_duel.specs.Ranges.{IsBullet}
use Rattle.roll_duel.specs.Bullets.{hits, hit, hits_any, struck, remains}

-- one ship more that the bullet doesn't hit
missed_more : (b : Bullet) (n m : ℕ) (ships : List Ship) (i : ℕ) (y : Ship) → i < length ships → y ≡ get_or ships i y → m ≡ n + i → hits b m y ≡ false → hits_any b n (take i ships) ≡ false → hits_any b n (take (suc i) ships) ≡ false
missed_more b n m [] i y l is e miss h = absurd (omega arith)
missed_more b n m (s ∷ ships) zero y l is e miss h =
    let at : n ≡ m = omega arith in let missed : hits b n s ≡ false = cc in rw missed refl
missed_more b n m (s ∷ ships) (suc i) y l is e miss h =
    let both = or_parts (hits b n s) (hits_any b (n + 1) (take i ships)) h in
    rw both.0 (missed_more b (n + 1) m ships i y (omega arith) is (omega arith) miss both.1)

pub missed_next : (b : Bullet) (ships : List Ship) (i : ℕ) (y : Ship) → i < length ships → y ≡ get_or ships i y → hits b (i + 1) y ≡ false → hits_any b 1 (take i ships) ≡ false → hits_any b 1 (take (i + 1) ships) ≡ false
missed_next b ships i y l is miss h = rw add-one (missed_more b 1 (i + 1) ships i y l is (omega arith) miss h)

-- a bullet that hits none leaves the ships
pub missed_all : (b : Bullet) (n : ℕ) (ships : List Ship) → hits_any b n ships ≡ false → struck b n ships ≡ ships
missed_all b n [] h = refl
missed_all b n (s ∷ ships) h =
    let both = or_parts (hits b n s) (hits_any b (n + 1) ships) h in
    rw (both.0, missed_all b (n + 1) ships both.1) refl

-- the first ship that it hits
pub hits_first : (b : Bullet) (n m : ℕ) (ships : List Ship) (i : ℕ) (y : Ship) → i < length ships → y ≡ get_or ships i y → m ≡ n + i → hits b m y ≡ true → hits_any b n (take i ships) ≡ false → (struck b n ships ≡ set ships i (hit y)) × (hits_any b n ships ≡ true)
hits_first b n m [] i y l is e strikes h = absurd (omega arith)
hits_first b n m (s ∷ ships) zero y l is e strikes h =
    let at : n ≡ m = omega arith in let struck_it : hits b n s ≡ true = cc in
    (rw struck_it (ap (λ (z : Ship). hit z ∷ ships) (sym is)), rw struck_it refl)
hits_first b n m (s ∷ ships) (suc i) y l is e strikes h =
    let both = or_parts (hits b n s) (hits_any b (n + 1) (take i ships)) h in
    let rest = hits_first b (n + 1) m ships i y (omega arith) is (omega arith) strikes both.1 in
    (rw (both.0, rest.0) refl, rw (both.0, rest.1) refl)

-- a hit leaves each ship where it is
still_hits_with : (b c : Bullet) (n m : ℕ) (s : Ship) (ships : List Ship) (strikes : Bool) → hits_any b (n + 1) (struck c (m + 1) ships) ≡ hits_any b (n + 1) ships → hits_any b n (cond strikes (hit s ∷ ships) (s ∷ struck c (m + 1) ships)) ≡ hits_any b n (s ∷ ships)
still_hits_with b c n m s ships true h = refl
still_hits_with b c n m s ships false h = rw h refl

still_hits : (b c : Bullet) (n m : ℕ) (ships : List Ship) → hits_any b n (struck c m ships) ≡ hits_any b n ships
still_hits b c n m [] = refl
still_hits b c n m (s ∷ ships) = still_hits_with b c n m s ships (hits c m s) (still_hits b c (n + 1) (m + 1) ships)

-- so a bullet hits the same ships after others
pub still_hits_all : (b : Bullet) (bullets : List Bullet) (ships : List Ship) → hits_any b 1 (fold (λ ships c. struck c 1 ships) ships bullets) ≡ hits_any b 1 ships
still_hits_all b [] ships = refl
still_hits_all b (c ∷ bullets) ships = still_hits_all b bullets (struck c 1 ships) ∙ still_hits b c 1 1 ships

-- whether a bullet remains, by what the ships say that others struck before
pub remains_is : (b : Bullet) (bullets : List Bullet) (ships now : List Ship) (r : Bool) → now ≡ fold (λ ships c. struck c 1 ships) ships bullets → r ≡ hits_any b 1 now → remains ships b ≡ (not r && nat_lt 0 b.life)
remains_is b bullets ships now r e h =
    ap (λ (any : Bool). not any && nat_lt 0 b.life) (sym (h ∙ ap (hits_any b 1) e ∙ still_hits_all b bullets ships))

pub read_same : (xs ys : List Bullet) (i : ℕ) (d : Bullet) → drop i ys ≡ drop i xs → get_or ys i d ≡ get_or xs i d
read_same xs ys i d e =
    ap (λ (k : ℕ). get_or ys k d) (sym (add-zero i)) ∙ sym (get_or-drop i ys 0 d) ∙ ap (λ (zs : List Bullet). get_or zs 0 d) e ∙ get_or-drop i xs 0 d ∙ ap (λ (k : ℕ). get_or xs k d) (add-zero i)

pub struck_more : (xs : List Bullet) (ships now after : List Ship) (i : ℕ) (b : Bullet) → i < length xs → b ≡ get_or xs i b → now ≡ fold (λ ships c. struck c 1 ships) ships (take i xs) → after ≡ struck b 1 now → after ≡ fold (λ ships c. struck c 1 ships) ships (take (i + 1) xs)
struck_more xs ships now after i b l is e h =
    h ∙ ap (struck b 1) e ∙ sym (rw (take_more xs i b l, fold-append (λ (ships : List Ship) (c : Bullet). struck c 1 ships) ships (take i xs) (get_or xs i b ∷ []), ← is) refl)

-- a bullet that no ship stops and that has frames to live
pub stays : (strikes : Bool) (life : ℕ) → strikes ≡ false → 0 < life → (not strikes && nat_lt 0 life) ≡ true
stays strikes life e l = rw (e, lt-ltb 0 life l) refl

pub stopped : (strikes : Bool) (life : ℕ) → strikes ≡ true → (not strikes && nat_lt 0 life) ≡ false
stopped strikes life e = rw e refl

pub spent : (strikes : Bool) (life : ℕ) → strikes ≡ false → life ≤ 0 → (not strikes && nat_lt 0 life) ≡ false
spent strikes life e l = rw (e, le-ltb 0 life l) refl

pub still_bullets : (bullets : List Bullet) (i k : ℕ) (b : Bullet) → All IsBullet bullets → i < length bullets → b ≡ get_or bullets i b → All IsBullet (set bullets k b)
still_bullets bullets i k b h l is = All-set IsBullet bullets k b (subst IsBullet (sym is) (h i b l)) h
