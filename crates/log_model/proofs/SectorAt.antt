-- One sector of what a log leaves.
use Rattle.std.proofs.Common.{◌≡◌, ℕ, ◌+◌, ◌-◌, ◌<◌, ◌≤◌, List, [], ◌∷◌, length, drop, map, slice_range, true, cond, leb, Option, Some, None, unwrap_or, refl, sym, ap, ◌∙◌, arith, length-take, length-drop, inl, inr}
use Rattle.std.specs.List.{fold, slice_get, range_with_len, AllByRecursion, cons_option}
use Rattle.std.proofs.lemmas.Bool.{and_parts, leb-true, ltb-true, le-leb, lt-leb, cases_lt}
use Rattle.std.proofs.lemmas.Option.{slice_get_past, get_or_from_slice_get, slice_get-get_or}
use Rattle.std.proofs.lemmas.List.{length-replicate}
use Rattle.std.proofs.lemmas.List.FromFn.{fill_by_all}
use Rattle.sector_model.specs.Disk.{Write as Replacement, Fits, after_write, fresh_disk}
use Rattle.sector_model.specs.Run.{is_within}
use Rattle.sector_model.specs.Sector.{zero_sector}
use Rattle.sector_model.specs.declared.sector.Sector.{Sector}
use Rattle.log_model.specs.declared.entry.Entry.{Entry}
use Rattle.log_model.specs.Entry.{writes_of, write_to, contents}
use Rattle.log_model.specs.Legal.{Disks, all_of, HasDisk, Legal, capacity_of}
use Rattle.log_model.specs.Refusals.{is_on_disk, is_known}
use Rattle.log_model.specs.PlainMachine.{sector_at, sector_after, sector_of_write}
use Rattle.basics.proofs.ItemAt.{slice_get-take, slice_get-drop, slice_get-replicate}
use Rattle.basics.proofs.Replaced.{length-replaced, replaced-before, replaced-within, replaced-behind}
use Rattle.log_model.proofs.TouchedLaws.{writes_fit, length-contents}

-- the sector of a disk after a write is what the plain machine reads
after_one : (c s : ℕ) (disk : List Sector) (w : Replacement) (sector : Sector) → length disk ≡ c
    → Fits c w → slice_get disk s ≡ Some sector
    → slice_get (after_write disk w) s ≡ Some (sector_of_write s sector (Some w))
after_one c s disk w sector long fit here =
    let within : w.first + length w.sectors ≤ length disk = omega (arith, long, fit) in
    elim (cases_lt s w.first) [
      | inl less ↦
          replaced-before disk w.sectors w.first (omega (arith, within)) s less ∙ here
          ∙ ap (λ b. Some (cond b (unwrap_or (slice_get w.sectors (s - w.first)) sector) sector))
          (sym (lt-leb w.first s less))
      | inr from ↦
          let reads : sector_of_write s sector (Some w)
          ≡ unwrap_or (slice_get w.sectors (s - w.first)) sector =
          ap (λ b. cond b (unwrap_or (slice_get w.sectors (s - w.first)) sector) sector)
          (le-leb w.first s from) in
          elim (cases_lt s (w.first + length w.sectors)) [
            | inl inside ↦
                let at : s - w.first < length w.sectors = omega arith in
                let found = slice_get-get_or w.sectors (s - w.first) sector at in
                replaced-within disk w.sectors w.first (omega (arith, within)) s from inside ∙ found
                ∙ ap Some (sym (reads ∙ ap (λ (o : Option Sector). unwrap_or o sector) found))
            | inr past ↦
                let none = slice_get_past w.sectors (s - w.first) (omega arith) in
                replaced-behind disk w.sectors w.first (omega (arith, within)) s past ∙ here
                ∙ ap Some (sym (reads ∙ ap (λ (o : Option Sector). unwrap_or o sector) none))
          ]
    ]

abbrev Reads : ℕ → ℕ → ℕ → List Entry → Type 0
Reads c d s log = (disk : List Sector) (sector : Sector) → length disk ≡ c
    → AllByRecursion (Fits c) (writes_of d log) → slice_get disk s ≡ Some sector
    → slice_get (fold after_write disk (writes_of d log)) s
    ≡ Some (fold (sector_after d s) sector log)

reads_one : (c d s : ℕ) (log : List Entry) (disk : List Sector) (sector : Sector)
    (o : Option Replacement) → length disk ≡ c
    → AllByRecursion (Fits c) (cons_option o (writes_of d log))
    → slice_get disk s ≡ Some sector → Reads c d s log
    → slice_get (fold after_write disk (cons_option o (writes_of d log))) s
    ≡ Some (fold (sector_after d s) (sector_of_write s sector o) log)
reads_one c d s log disk sector None long fit here more = more disk sector long fit here
reads_one c d s log disk sector (Some w) long fit here more =
    more (after_write disk w) (sector_of_write s sector (Some w))
    (length-replaced disk w.sectors w.first (omega (arith, long, fit.0)) ∙ long) fit.1
    (after_one c s disk w sector long fit.0 here)

-- so it is after all writes of a log
reads_on : (c d s : ℕ) (log : List Entry) → Reads c d s log
reads_on c d s [] disk sector long fit here = here
reads_on c d s (e ∷ log) disk sector long fit here =
    reads_one c d s log disk sector (write_to d e.act) long fit here (reads_on c d s log)

pub sector_at_is : (disks : Disks) (c d s : ℕ) (log : List Entry) → HasDisk disks d c
    → Legal disks log → s < c → slice_get (contents c d log) s ≡ Some (sector_at d s log)
sector_at_is disks c d s log has legal less =
    reads_on c d s log (fresh_disk c) zero_sector (length-replicate c zero_sector)
    (writes_fit disks c d log has legal) (slice_get-replicate c s zero_sector less)

-- a range of the sectors that a log leaves
pub slice_is : (disks : Disks) (c d first count : ℕ) (log : List Entry) → HasDisk disks d c
    → Legal disks log → first + count ≤ c
    → map (λ i. sector_at d (first + i) log) (range_with_len 0 count)
    ≡ slice_range (contents c d log) first (first + count)
slice_is disks c d first count log has legal fits =
    let disk : List Sector = contents c d log in
    let long : length disk ≡ c = length-contents disks c d log legal has in
    let n : length (slice_range disk first (first + count)) ≡ count =
    omega (
      arith,
      fits,
      long,
      length-take (first + count - first) (drop first disk),
      length-drop first disk,
    ) in
    sym (fill_by_all (λ i. sector_at d (first + i) log) (slice_range disk first (first + count))
    count zero_sector n
    (λ k less.
    let inside : k < first + count - first = omega arith in
    get_or_from_slice_get (slice_range disk first (first + count)) k (sector_at d (first + k) log)
    zero_sector
    (slice_get-take (drop first disk) (first + count - first) k inside ∙ slice_get-drop disk first k
    ∙ sector_at_is disks c d (first + k) log has legal (omega arith))))

-- the same, of a machine's disk
pub read_is : (capacities : List ℕ) (d first count : ℕ) (log : List Entry)
    → Legal (all_of capacities) log → is_on_disk capacities d first count ≡ true
    → map (λ i. sector_at d (first + i) log) (range_with_len 0 count)
    ≡ slice_range (contents (capacity_of capacities d) d log) first (first + count)
read_is capacities d first count log legal within =
    let c : ℕ = capacity_of capacities d in
    let on_disk = and_parts (is_known capacities d) (is_within c first count) within in
    let parts = and_parts (leb 1 count) (leb (first + count) c) on_disk.1 in
    slice_is (all_of capacities) c d first count log
    (ltb-true d (length capacities) on_disk.0, refl)
    legal (leb-true (first + count) c parts.1)
