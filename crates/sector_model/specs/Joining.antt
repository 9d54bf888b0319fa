-- How a run is joined with others, run by run: words of the loop that does it.
use Rattle.std.specs.Prelude.{◌≡◌, ℕ, ◌-◌, ◌<◌, ◌^◌, min, max, List, [], ◌∷◌, nat_lt, if◌then◌else◌, Option, Some, None, IfSome}
use Rattle.sector_model.specs.Run.{end_of}
use Rattle.sector_model.specs.declared.run.Run.{Run}

-- the shortest run that has the sectors of both
abbrev pub hull : Run → Run → Run
hull r q = record {
  first = min r.first q.first;
  count = max (end_of r) (end_of q) - min r.first q.first;
}

-- the runs and one more: those that end before it stay, those that meet it or are next to it are
-- one with it
abbrev pub joined : (more : Run) → List Run → List Run
joined more [] = more ∷ []
joined more (r ∷ rs) =
    if nat_lt (end_of r) more.first then r ∷ joined more rs
    else if nat_lt (end_of more) r.first then more ∷ r ∷ rs
    else joined (hull more r) rs

-- the same where no run may be left to join
abbrev pub left_over : (left : Option Run) → List Run → List Run
left_over None rs = rs
left_over (Some more) rs = joined more rs

-- a run that is left ends at a number of 64 bits
abbrev pub Fits64 : (left : Option Run) → Type 0
Fits64 left = IfSome left (λ r. end_of r < 2 ^ 64)
