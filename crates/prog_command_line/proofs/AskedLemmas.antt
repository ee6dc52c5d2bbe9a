-- What the matches of a parse ask for.
use Rattle.std.proofs.Common.{◌≡◌, ap, refl, sym, List, Option, Some, None}
use Rattle.std.specs.Box.{box_value}
use Rattle.std.specs.Prelude.{option_map}
use Rattle.clap.proofs.WalkLemmas.{first_value-rows}
use Rattle.clap.specs.Matches.{first_value, found_of, subcommand_name_of}
use Rattle.clap.specs.Simple.{subcommand_rows_of}
use Rattle.clap.specs.Walk.{Row, Text, rows_of}
use Rattle.clap.specs.declared.parser.matches.ArgMatches.{ArgMatches}
use Rattle.clap.specs.declared.parser.matches.ArgMatches.TheViews.{out-ArgMatches, out-SubCommand}
use Rattle.clap.specs.declared.parser.matches.Found.{Found}
use Rattle.prog_command_line.specs.Requests.{asked_in, asked_named, picture_in, picture_named}

both_parts : {A X Y : Type 0} (f : A → X) (g : A → Y) (o : Option A) (x : X) (y : Y) → Some x ≡ option_map f o
    → Some y ≡ option_map (λ p. p.1) (option_map (λ a. let p : X × Y = (f a, g a) in p) o) → Some (x, y) ≡ option_map (λ a. let p : X × Y = (f a, g a) in p) o
both_parts f g None x y e e2 = cc
both_parts f g (Some a) x y e e2 = cc

-- the subcommand of the matches, by its name and its rows
pub met : (m : ArgMatches) (name : Text) (rows : List Row) → Some name ≡ subcommand_name_of m → Some rows ≡ option_map (λ p. p.1) (subcommand_rows_of m)
    → Some (name, rows) ≡ subcommand_rows_of m
met m name rows is_name is_rows = both_parts (λ b. (out-SubCommand (box_value b)).name.now)
    (λ b. rows_of (found_of (out-SubCommand (box_value b)).matches)) (out-ArgMatches m).subcommand name rows is_name is_rows

none_met : {A X : Type 0} (f : A → X) (o : Option A) → None ≡ option_map f o → o ≡ None
none_met f None e = refl
none_met f (Some a) e = cc

pub not_met : (m : ArgMatches) → None ≡ option_map (λ p. p.1) (subcommand_rows_of m) → None ≡ subcommand_rows_of m
not_met m e = sym (none_met (λ p. p.1) (subcommand_rows_of m) e)

-- what a command's name and its matches ask for
pub asked_of_found : (name : Text) (f : Found) → asked_named name (first_value f) ≡ asked_in (Some (name, rows_of f))
asked_of_found name f = ap (asked_named name) (λ i id. first_value-rows f id i)

-- and which picture its matches ask for
pub picture_of_found : (name : Text) (f : Found) → picture_named (first_value f) ≡ picture_in (Some (name, rows_of f))
picture_of_found name f = ap picture_named (λ i id. first_value-rows f id i)
