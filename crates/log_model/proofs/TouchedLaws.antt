-- The blocks that are touched between two places.
use Rattle.std.proofs.Common.{◌≡◌, ℕ, ◌+◌, ◌/◌, ◌≤◌, List, [], ◌∷◌, ◌++◌, length, take, drop, Bool, true, false, cond, ◌||◌, ◌&&◌, eqb, nat_eq, Option, Some, None, sym, ap, subst, refl, ◌∙◌, arith, length-take, inl, inr}
use Rattle.std.specs.List.{fold, cons_option, slice_get, list_any, range_with_len, AllByRecursion}
use Rattle.std.proofs.Math.Bool.{and-or_distrib_right}
use Rattle.std.proofs.lemmas.Bool.{cases_lt, eqb-true}
use Rattle.std.proofs.lemmas.Option.{slice_get_past}
use Rattle.std.proofs.lemmas.List.{take-take, take-append-drop, drop-append-le, drop_all, length-replicate}
use Rattle.std.proofs.lemmas.List.Sums.{fold-append}
use Rattle.std.proofs.lemmas.List.Elements.{filter_map-append}
use Rattle.std.proofs.lemmas.List.Folds.{list_any-append}
use Rattle.sector_model.specs.Disk.{Write as Replacement, Fits, after_write, fold_writes, fresh_disk}
use Rattle.sector_model.specs.Sector.{zero_sector}
use Rattle.sector_model.specs.Run.{touches, touched_blocks, block_count, in_blocks}
use Rattle.sector_model.specs.declared.sector.Sector.{Sector}
use Rattle.log_model.specs.declared.entry.Act.{Act}
use Rattle.log_model.specs.declared.entry.Act.TheVariants.{Write, Snap, Remove, Reset, Enable, Off, On}
use Rattle.log_model.specs.declared.entry.Entry.{Entry}
use Rattle.log_model.specs.Entry.{writes_of, write_to, contents}
use Rattle.log_model.specs.Legal.{Disks, all_of, only, HasDisk, LiesOn, Legal, ActMayStand, capacity_of}
use Rattle.log_model.specs.Touched.{between}
use Rattle.log_model.specs.Laws.{TouchedJoins, UntouchedStays, ContentsAreSized}
use Rattle.sector_model.proofs.WritesKept.{untouched, length-after_writes}
use Rattle.sector_model.proofs.Touched.{in_touched, not_touched, fits-push, fits-back}
use Rattle.change_id.proofs.Ends.{by_last}
use Rattle.log_model.proofs.LegalLogs.{legal_last, legal_front, prefixes_are_legal}

pub writes-append : (d : ℕ) (xs ys : List Entry)
    → writes_of d (xs ++ ys) ≡ writes_of d xs ++ writes_of d ys
writes-append d xs ys = let found : Entry → Option Replacement = λ e. write_to d e.act in
    filter_map-append found xs ys

-- the entries between i and k are those up to j and those from j on
pub between-joins : (i j k : ℕ) (log : List Entry) → i ≤ j → j ≤ k
    → between i k log ≡ between i j log ++ between j k log
between-joins i j k log first second =
    let all : take j log ++ drop j (take k log) ≡ take k log =
    ap (λ (xs : List Entry). xs ++ drop j (take k log)) (sym (take-take j k log second))
    ∙ take-append-drop j (take k log) in
    elim (cases_lt (length log) i) [
      | inr long ↦
          let le : i ≤ length (take j log) = omega (arith, length-take j log) in
          ap (drop i) (sym all) ∙ drop-append-le i (take j log) (drop j (take k log)) le
      | inl short ↦
          let none_k : between i k log ≡ [] =
          drop_all i (take k log) (omega (arith, length-take k log)) in
          let none_j : between i j log ≡ [] =
          drop_all i (take j log) (omega (arith, length-take j log)) in
          let none_l : between j k log ≡ [] =
          drop_all j (take k log) (omega (arith, length-take k log)) in
          none_k ∙ sym (ap (λ (xs : List Entry). xs ++ between j k log) none_j ∙ none_l)
    ]

pub touched_joins : TouchedJoins
touched_joins c d i j k log sector first second =
    let early : List Replacement = writes_of d (between i j log) in
    let late : List Replacement = writes_of d (between j k log) in
    let known : Bool = list_any (nat_eq (sector / 128)) (range_with_len 0 (block_count c)) in
    let both : writes_of d (between i k log) ≡ early ++ late =
    ap (writes_of d) (between-joins i j k log first second)
    ∙ writes-append d (between i j log) (between j k log) in
    in_touched c sector (writes_of d (between i k log))
    ∙ ap (λ (ws : List Replacement). list_any (touches (sector / 128)) ws && known) both
    ∙ ap (λ b. b && known) (list_any-append (touches (sector / 128)) early late)
    ∙ and-or_distrib_right (list_any (touches (sector / 128)) early)
    (list_any (touches (sector / 128)) late) known
    ∙ sym (ap (λ b. b || in_blocks (touched_blocks c late) sector) (in_touched c sector early)
    ∙ ap (λ b. (list_any (touches (sector / 128)) early && known) || b)
    (in_touched c sector late))

-- ---- the writes of a legal log lie within their disks

one_fits_at : (c disk d first : ℕ) (sectors : List Sector) (b : Bool) → eqb disk d ≡ b
    → (disk ≡ d → first + length sectors ≤ c)
    → AllByRecursion (Fits c)
    (cons_option (cond b (Some (record { first = first; sectors = sectors })) None) [])
one_fits_at c disk d first sectors true same h = (h (eqb-true disk d same), tt)
one_fits_at c disk d first sectors false same h = tt

-- what lies on the disks lies within each of them
within_disk : (disks : Disks) (c d disk first count : ℕ) → HasDisk disks d c
    → LiesOn disks disk first count → disk ≡ d → first + count ≤ c
within_disk (all_of capacities) c d disk first count has lies same =
    subst (λ n. first + count ≤ n) (ap (capacity_of capacities) same ∙ has.1) lies.1
within_disk (only own size) c d disk first count has lies same =
    subst (λ n. first + count ≤ n) has.1 (lies (same ∙ sym has.0))

one_fits : (disks : Disks) (c d : ℕ) (log : List Entry) (who : ℕ) (act : Act) → HasDisk disks d c
    → ActMayStand disks log who act
    → AllByRecursion (Fits c) (writes_of d (record { who = who; act = act } ∷ []))
one_fits disks c d log who (Write disk first sectors) has stands =
    one_fits_at c disk d first sectors (eqb disk d) refl
    (λ same. within_disk disks c d disk first (length sectors) has stands.within same)
one_fits disks c d log who (Snap id owner) has stands = tt
one_fits disks c d log who (Remove id) has stands = tt
one_fits disks c d log who (Reset disk) has stands = tt
one_fits disks c d log who Enable has stands = tt
one_fits disks c d log who Off has stands = tt
one_fits disks c d log who On has stands = tt

pub writes_fit : (disks : Disks) (c d : ℕ) (log : List Entry) → HasDisk disks d c → Legal disks log
    → AllByRecursion (Fits c) (writes_of d log)
writes_fit disks c d log has =
    by_last (λ log. Legal disks log → AllByRecursion (Fits c) (writes_of d log)) (λ _. tt)
    (λ log e rest legal. subst (AllByRecursion (Fits c)) (sym (writes-append d log (e ∷ [])))
    (fits-push c (writes_of d log) (writes_of d (e ∷ []))
    (rest (legal_front disks log (e ∷ []) legal))
    (one_fits disks c d log e.who e.act has (legal_last disks log e legal)))) log

pub length-contents : ContentsAreSized
length-contents disks c d log legal has =
    length-after_writes c (fresh_disk c) (writes_of d log) (length-replicate c zero_sector)
    (writes_fit disks c d log has legal)

-- ---- a sector of no touched block

pub untouched_stays : UntouchedStays
untouched_stays disks c d i k log sector legal has le none =
    let early : List Replacement = writes_of d (take i log) in
    let mid : List Replacement = writes_of d (between i k log) in
    let front : take i (take k log) ≡ take i log = take-take i k log le in
    let all : writes_of d (take k log) ≡ early ++ mid =
    ap (writes_of d) (sym (take-append-drop i (take k log))
    ∙ ap (λ (xs : List Entry). xs ++ between i k log) front)
    ∙ writes-append d (take i log) (between i k log) in
    let later : contents c d (take k log) ≡ fold after_write (contents c d (take i log)) mid =
    ap (fold_writes c) all ∙ fold-append after_write (fresh_disk c) early mid in
    let legal_i : Legal disks (take i log) = prefixes_are_legal disks log i legal in
    let legal_k : Legal disks (take k log) = prefixes_are_legal disks log k legal in
    elim (cases_lt sector c) [
      | inl inside ↦
          ap (λ (disk : List Sector). slice_get disk sector) later
          ∙ untouched c (contents c d (take i log)) mid sector
          (length-contents disks c d (take i log) legal_i has)
          (fits-back c early mid
          (subst (AllByRecursion (Fits c)) all (writes_fit disks c d (take k log) has legal_k)))
          (not_touched c sector mid inside none)
      | inr past ↦
          slice_get_past (contents c d (take k log)) sector
          (omega (arith, past, length-contents disks c d (take k log) legal_k has))
          ∙ sym (slice_get_past (contents c d (take i log)) sector
          (omega (arith, past, length-contents disks c d (take i log) legal_i has)))
    ]
