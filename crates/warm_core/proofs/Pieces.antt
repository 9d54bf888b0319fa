-- What a stage does next may be done.
use Rattle.std.proofs.Common.{◌≡◌, ℕ, ◌+◌, ◌-◌, ◌<◌, ◌≤◌, ◌^◌, List, Bool, true, false, cond, ◌||◌, ◌&&◌, leb, ltb, Option, Some, None, refl, sym, ap, subst, ◌∙◌, arith}
use Rattle.std.specs.List.{AllByRecursion}
use Rattle.std.specs.Option.{option_map_or}
use Rattle.std.proofs.lemmas.Bool.{lt-ltb, le-leb, ltb-true, ltb-false, false≢true}
use Rattle.std.proofs.lemmas.List.Elements.{recursion_from_All, All-from_recursion}
use Rattle.sector_model.specs.Run.{end_of, in_runs, in_blocks, areas_of, areas_of, next_run, AreSpaced}
use Rattle.sector_model.specs.Page.{PageContents, page_from, areas_from}
use Rattle.sector_model.specs.declared.run.Run.{Run}
use Rattle.sector_model.proofs.Exact.{in_runs_of}
use Rattle.sector_model.proofs.NextRun.{Next, next_is, areas_from-none}
use Rattle.sector_model.proofs.PageSectors.{areas_from_are_exact, pages_are_exact}
use Rattle.sector_model.proofs.Spacing.{runs_of-spaced}
use Rattle.warm_core.specs.declared.stage_state.StageState.{StageState}
use Rattle.warm_core.specs.declared.stage_state.Piece.{Piece}
use Rattle.warm_core.specs.declared.stage_state.Piece.TheVariants.{Ask, Copy, Zero, Flush, Done}
use Rattle.warm_core.specs.StageState.{IsInOrder, IsReady, MayCopy, MayZero}
use Rattle.warm_core.specs.Piece.{piece_from, next_area, gap_end, piece_behind, Reaches, IsPageOf, MayBeNext}
use Rattle.warm_core.specs.Laws.{PiecesMayBeNext}

-- ---- what a page tells of the sectors from `at` on

-- where the next area lies, below a sector up to which there is nothing else
pub record Lies (blocks : List ℕ) (at covered : ℕ) (r : Run) : Type 0 where
  pub from : at ≤ r.first
  pub some : 0 < r.count
  pub within : end_of r ≤ covered
  pub none : (s : ℕ) → at ≤ s → s < r.first → in_blocks blocks s ≡ false
  pub all : (s : ℕ) → r.first ≤ s → s < end_of r → in_blocks blocks s ≡ true

abbrev Ahead : (blocks : List ℕ) (at covered : ℕ) → Option Run → Type 0
Ahead blocks at covered None = (s : ℕ) → at ≤ s → s < covered → in_blocks blocks s ≡ false
Ahead blocks at covered (Some r) = Lies blocks at covered r

-- the sectors of a page's areas, from its start on and below its end
abbrev Tells : (blocks : List ℕ) (at covered : ℕ) → List Run → Type 0
Tells blocks at covered rs = (s : ℕ) → at ≤ s → s < covered → in_runs rs s ≡ in_blocks blocks s

from-on : (rs : List Run) (at s : ℕ) → at ≤ s → in_runs (areas_from at rs) s ≡ in_runs rs s
from-on rs at s low = areas_from_are_exact rs at s ∙ ap (λ b. b && in_runs rs s) (le-leb at s low)

ahead-of : (blocks : List ℕ) (at covered : ℕ) (rs : List Run) (o : Option Run) → AreSpaced rs
    → AllByRecursion (λ r. end_of r ≤ covered) rs → Tells blocks at covered rs
    → next_run at rs ≡ o → Ahead blocks at covered o
ahead-of blocks at covered rs None spaced ends tells is =
    λ s low less. sym (tells s low less) ∙ sym (from-on rs at s low)
    ∙ ap (λ (xs : List Run). in_runs xs s) (areas_from-none rs at is)
ahead-of blocks at covered rs (Some r) spaced ends tells is =
    let next : Next rs at covered r = next_is 0 covered rs at r spaced ends is in
    let low = next.is.from in
    let high = next.is.inside in
    record {
      from = low;
      some = next.is.some;
      within = high;
      none = λ s from less. sym (tells s from (omega (arith, less, high)))
          ∙ next.is.gap s from less;
      all = λ s from less. sym (tells s (omega (arith, low, from)) (omega (arith, less, high)))
          ∙ next.is.held s from less;
    }

and-true : (a b e : Bool) → a ≡ true → b ≡ true → (a && b && e) ≡ e
and-true a b e one two = ap (λ x. x && b && e) one ∙ ap (λ x. x && e) two

page-tells : (blocks : List ℕ) (c at covered : ℕ) (page : PageContents) → c < 2 ^ 64
    → page.start ≤ at → page.start + page.length ≡ covered → covered ≤ c → page.start < c
    → page ≡ page_from c (areas_of c blocks) page.start → Tells blocks at covered page.areas
page-tells blocks c at covered page small low end within start is =
    let areas : List Run = areas_of c blocks in
    let kept = runs_of-spaced (in_blocks blocks) c small in
    λ s from less.
    ap (λ (p : PageContents). in_runs p.areas s) is
    ∙ pages_are_exact c areas page.start s kept.spaced
    (All-from_recursion (λ r. end_of r ≤ c) areas kept.ends) start
    ∙ and-true (leb page.start s) (ltb s (page.start + (page_from c areas page.start).length))
    (in_runs areas s) (le-leb page.start s (omega (arith, low, from)))
    (ap (λ (p : PageContents). ltb s (page.start + p.length)) (sym is)
    ∙ lt-ltb s (page.start + page.length) (omega (arith, less, end)))
    ∙ in_runs_of (in_blocks blocks) c s
    ∙ ap (λ b. b && in_blocks blocks s) (lt-ltb s c (omega (arith, less, within)))

no-area : (blocks : List ℕ) (at covered : ℕ) (page : PageContents) (b : Bool) → ltb at covered ≡ b
    → (b ≡ true → Ahead blocks at covered (next_run at page.areas))
    → Ahead blocks at covered (cond b (next_run at page.areas) None)
no-area blocks at covered page true is there = there refl
no-area blocks at covered page false is there = let past = ltb-false at covered is in
    λ s from less. absurd (omega (arith, past, from, less))

pub area-ahead : (blocks : List ℕ) (t : StageState) (page : PageContents) → t.capacity < 2 ^ 64
    → IsInOrder t → (0 < t.covered → Reaches t page × IsPageOf blocks t page)
    → Ahead blocks t.at t.covered (next_area t page)
area-ahead blocks t page small order has =
    no-area blocks t.at t.covered page (ltb t.at t.covered) refl (λ is.
    let less = ltb-true t.at t.covered is in
    let page_is = has (omega (arith, less)) in
    let lies = page_is.0.lies in
    let end = page_is.0.end in
    let some = lies.some in
    let within = order.within in
    let ends : AllByRecursion (λ r. end_of r ≤ t.covered) page.areas =
    subst (λ n. AllByRecursion (λ r. end_of r ≤ n) page.areas) end
    (recursion_from_All (λ r. end_of r ≤ page.start + page.length) page.areas lies.end_inside)
    in
    ahead-of blocks t.at t.covered page.areas (next_run t.at page.areas) lies.spaced ends
    (page-tells blocks t.capacity t.at t.covered page small page_is.0.start end within
    (omega (arith, end, some, within)) page_is.1) refl)

-- ---- the pieces

-- where nothing more is left below `covered`
ready-at : (blocks : List ℕ) (full : Bool) (at covered : ℕ) → (full ≡ true → covered ≤ at)
    → Ahead blocks at covered None
    → (s : ℕ) → at ≤ s → s < covered → (full || in_blocks blocks s) ≡ false
ready-at blocks true at covered past none s from less = let over = past refl in
    absurd (omega (arith, over, from, less))
ready-at blocks false at covered past none s from less = none s from less

next-at : (blocks : List ℕ) (full : Bool) (at covered : ℕ) (r : Run) → (full ≡ true → r.first ≤ at)
    → Lies blocks at covered r
    → (s : ℕ) → at ≤ s → s < r.first → (full || in_blocks blocks s) ≡ false
next-at blocks true at covered r past lies s from less = let over = past refl in
    absurd (omega (arith, over, from, less))
next-at blocks false at covered r past lies s from less = lies.none s from less

copies : (blocks : List ℕ) (t : StageState) (r : Run) → (t.full ≡ true → r.first ≤ t.at)
    → Lies blocks t.at t.covered r → MayCopy blocks (piece_from r.first r.count) t
copies blocks t r past lies =
    let some = lies.some in
    let within = lies.within in
    record {
      piece = record {
        some = omega (arith, some);
        few = omega arith;
        within = omega (arith, within);
        from = lies.from;
      };
      in_area = λ s low high. lies.all s low (omega (arith, high));
      is_next = next-at blocks t.full t.at t.covered r past lies;
    }

-- up to where a gap is known to reach
gap-none : (blocks : List ℕ) (at covered : ℕ) (o : Option Run) → Ahead blocks at covered o → (s : ℕ)
    → at ≤ s → s < option_map_or (λ (r : Run). r.first) o covered → in_blocks blocks s ≡ false
gap-none blocks at covered None ahead s from less = ahead s from less
gap-none blocks at covered (Some r) ahead s from less = ahead.none s from less

gap-within : (blocks : List ℕ) (at covered : ℕ) (o : Option Run) → Ahead blocks at covered o
    → option_map_or (λ (r : Run). r.first) o covered ≤ covered
gap-within blocks at covered None ahead = omega arith
gap-within blocks at covered (Some r) ahead = let within = ahead.within in omega (arith, within)

zeroes : (blocks : List ℕ) (t : StageState) (o : Option Run) → t.full ≡ true
    → t.at < option_map_or (λ (r : Run). r.first) o t.covered → Ahead blocks t.at t.covered o
    → MayZero blocks (piece_from t.at (option_map_or (λ (r : Run). r.first) o t.covered - t.at)) t
zeroes blocks t o full less ahead =
    let within = gap-within blocks t.at t.covered o ahead in
    record {
      piece = record {
        some = omega (arith, less);
        few = omega arith;
        within = omega (arith, less, within);
        from = omega arith;
      };
      full = full;
      in_gap = λ s low high. gap-none blocks t.at t.covered o ahead s low
          (omega (arith, high, less));
      is_next = refl;
    }

behind : (blocks : List ℕ) (t : StageState) (more : Bool) → IsInOrder t → t.flushed ≡ false
    → ltb t.covered t.capacity ≡ more → IsReady blocks t
    → MayBeNext blocks t (cond more (Ask t.covered) Flush)
behind blocks t true order unflushed is ready =
    (refl, record { ready = ready; more = ltb-true t.covered t.capacity is })
behind blocks t false order unflushed is ready =
    let within = order.within in
    let past = ltb-false t.covered t.capacity is in
    record { ready = ready; all = omega (arith, within, past); unflushed = unflushed }

area-or-behind : (blocks : List ℕ) (t : StageState) (o : Option Run) → IsInOrder t
    → t.flushed ≡ false → (t.full ≡ true → option_map_or (λ (r : Run). r.first) o t.covered ≤ t.at)
    → Ahead blocks t.at t.covered o
    → MayBeNext blocks t (option_map_or (λ (r : Run). Copy (piece_from r.first r.count)) o
    (piece_behind t))
area-or-behind blocks t None order unflushed past ahead =
    behind blocks t (ltb t.covered t.capacity) order unflushed refl
    (ready-at blocks t.full t.at t.covered past ahead)
area-or-behind blocks t (Some r) order unflushed past ahead = copies blocks t r past ahead

not-before : (full : Bool) (a b : ℕ) → (full && ltb a b) ≡ false → full ≡ true → b ≤ a
not-before true a b h is = ltb-false a b h
not-before false a b h is = absurd (false≢true is)

both-true : (full : Bool) (a b : ℕ) → (full && ltb a b) ≡ true → (full ≡ true) × (a < b)
both-true true a b h = (refl, ltb-true a b h)
both-true false a b h = absurd (false≢true h)

gap-or : (blocks : List ℕ) (t : StageState) (o : Option Run) (b : Bool) → IsInOrder t
    → t.flushed ≡ false → (t.full && ltb t.at (option_map_or (λ (r : Run). r.first) o t.covered))
    ≡ b → Ahead blocks t.at t.covered o
    → MayBeNext blocks t (cond b
    (Zero (piece_from t.at (option_map_or (λ (r : Run). r.first) o t.covered - t.at)))
    (option_map_or (λ (r : Run). Copy (piece_from r.first r.count)) o (piece_behind t)))
gap-or blocks t o true order unflushed is ahead =
    let both = both-true t.full t.at (option_map_or (λ (r : Run). r.first) o t.covered) is in
    zeroes blocks t o both.0 both.1 ahead
gap-or blocks t o false order unflushed is ahead =
    area-or-behind blocks t o order unflushed
    (not-before t.full t.at (option_map_or (λ (r : Run). r.first) o t.covered) is) ahead

done-or : (blocks : List ℕ) (t : StageState) (piece : Piece) (b : Bool) → t.flushed ≡ b
    → (t.flushed ≡ false → MayBeNext blocks t piece) → MayBeNext blocks t (cond b Done piece)
done-or blocks t piece true is next = is
done-or blocks t piece false is next = next is

pub pieces_may_be_next : PiecesMayBeNext
pieces_may_be_next blocks t page small order has =
    let area : Option Run = next_area t page in
    done-or blocks t (cond (t.full && ltb t.at (gap_end t page))
    (Zero (piece_from t.at (gap_end t page - t.at)))
    (option_map_or (λ (r : Run). Copy (piece_from r.first r.count)) area (piece_behind t)))
    t.flushed refl (λ unflushed. gap-or blocks t area (t.full && ltb t.at (gap_end t page)) order
    unflushed refl (area-ahead blocks t page small order has))
