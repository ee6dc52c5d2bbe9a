-- Two ships are the same if the numbers of both are.
use Rattle.std.proofs.Common.{◌≡◌, Bool, true, eqb, int_eq, refl, subst}
use Rattle.std.specs.Prelude.{◌&&◌, Decides}
use Rattle.std.proofs.lemmas.Bool.{and_parts}
use Rattle.std.proofs.lemmas.Bool.Decides.{Decides-eqb, Decides-int_eq}
use Rattle.roll_duel.specs.declared.ship.Ship.{Ship}

abbrev pub ship_eq : Ship → Ship → Bool
ship_eq a b =
    eqb a.x b.x && (eqb a.y b.y && (int_eq a.vx b.vx && (int_eq a.vy b.vy && (eqb a.heading b.heading && (eqb a.cool b.cool && eqb a.hits b.hits)))))

ship_same : (a b : Ship) → ship_eq a b ≡ true → a ≡ b
ship_same a b h =
    let x = and_parts (eqb a.x b.x) (eqb a.y b.y && (int_eq a.vx b.vx && (int_eq a.vy b.vy && (eqb a.heading b.heading && (eqb a.cool b.cool && eqb a.hits b.hits))))) h in
    let y = and_parts (eqb a.y b.y) (int_eq a.vx b.vx && (int_eq a.vy b.vy && (eqb a.heading b.heading && (eqb a.cool b.cool && eqb a.hits b.hits)))) x.1 in
    let vx = and_parts (int_eq a.vx b.vx) (int_eq a.vy b.vy && (eqb a.heading b.heading && (eqb a.cool b.cool && eqb a.hits b.hits))) y.1 in
    let vy = and_parts (int_eq a.vy b.vy) (eqb a.heading b.heading && (eqb a.cool b.cool && eqb a.hits b.hits)) vx.1 in
    let heading = and_parts (eqb a.heading b.heading) (eqb a.cool b.cool && eqb a.hits b.hits) vy.1 in
    let cool = and_parts (eqb a.cool b.cool) (eqb a.hits b.hits) heading.1 in
    λ i. record {
      x = (Decides-eqb a.x b.x).0 x.0 i;
      y = (Decides-eqb a.y b.y).0 y.0 i;
      vx = (Decides-int_eq a.vx b.vx).0 vx.0 i;
      vy = (Decides-int_eq a.vy b.vy).0 vy.0 i;
      heading = (Decides-eqb a.heading b.heading).0 heading.0 i;
      cool = (Decides-eqb a.cool b.cool).0 cool.0 i;
      hits = (Decides-eqb a.hits b.hits).0 cool.1 i;
    }

ship_itself : (a : Ship) → ship_eq a a ≡ true
ship_itself a =
    rw ((Decides-eqb a.x a.x).1 refl, (Decides-eqb a.y a.y).1 refl, (Decides-int_eq a.vx a.vx).1 refl, (Decides-int_eq a.vy a.vy).1 refl, (Decides-eqb a.heading a.heading).1 refl, (Decides-eqb a.cool a.cool).1 refl, (Decides-eqb a.hits a.hits).1 refl) refl

pub ship_eq-Decides : (a b : Ship) → Decides (ship_eq a b) (a ≡ b)
ship_eq-Decides a b = (ship_same a b, λ e. let P : Ship → Type 0 = λ c. ship_eq a c ≡ true in subst P e (ship_itself a))
