-- Routes as changes of rows.
use Rattle.std.specs.Prelude.{◌+◌, ◌≤◌, List, All}
use Rattle.roll_frame.specs.declared.limits.TheConstants.{PATH_LIMIT, BRANCH_LIMIT}
use Rattle.roll_frame.specs.declared.route.Route.{Route}
use Rattle.roll_branch.specs.Changes.{rows_from, AreFilled, IsPlaced}
use Rattle.roll_branch.specs.declared.change.Change.{Change}
use Rattle.roll_branch.specs.declared.packed.Changes.{Changes}
use Rattle.roll_branch.specs.declared.packed.Changes.TheVariants.{Few, Many}
use Rattle.roll_branch.specs.declared.packed.Packed.{Packed}

-- the changes, wherever they lie
abbrev pub changes_of : Changes → List Change
changes_of (Few few) = few.items
changes_of (Many many) = many.items

-- the route: the rows of its path, and those after them
abbrev pub unpacked : Packed → Route
unpacked packed =
    record {
      path = record { base = packed.base; rows = record { items = rows_from (changes_of packed.changes) 0 packed.path } };
      rows = record { items = rows_from (changes_of packed.changes) packed.path packed.run };
    }

-- the rows fit a route, each has a cell, and no change is about a player past the eighth
pub record IsSound (packed : Packed) : Type 0 where
  pub path : packed.path ≤ PATH_LIMIT
  pub run : packed.run ≤ BRANCH_LIMIT
  pub filled : AreFilled (changes_of packed.changes) (packed.path + packed.run)
  pub placed : All IsPlaced (changes_of packed.changes)
