-- What an identifier in force is of, and the mark of the snapshot that has it.
use Rattle.std.proofs.Common.{◌≡◌, ℕ, zero, suc, ◌+◌, ◌*◌, ◌^◌, ◌<◌, ◌≤◌, List, [], ◌∷◌, ◌++◌, length, take, Bool, true, false, not, cond, ◌&&◌, ◌==◌, eqb, Some, None, subst, sym, ap, refl, ◌∙◌, arith, add-one, length-append, length-take}
use Rattle.std.specs.List.{slice_get}
use Rattle.std.proofs.lemmas.Bool.{and_parts, eqb-true, eqb-false, eq-eqb, ne_eqb, false≢true}
use Rattle.std.proofs.lemmas.Option.{same_Some, none-some, slice_get_within, get_or_from_slice_get}
use Rattle.std.proofs.lemmas.List.{take-append-le, take-take}
use Rattle.std.proofs.lemmas.List.Sums.{passes_at_first}
use Rattle.change_id.specs.ChangeId.{id_of, packed}
use Rattle.change_id.specs.History.{Reading, IsApart, mark, before, through, epoch, counted, number, in_force, is_id, mark_of_id, TakesSnapshot, HasId}
use Rattle.change_id.specs.HistoryLaws.{MarksOfIds, LaterKeep}
use Rattle.change_id.specs.declared.ChangeId.{ChangeId}
use Rattle.change_id.proofs.Ends.{at_place, read-front, read-take, prefix_len-append, find-range_at, FoundAt, found-in}
use Rattle.change_id.proofs.Counts.{epoch-last, not_started}
use Rattle.change_id.proofs.Numbers.{once, no_new_number}

-- ---- an identifier that is in force

-- what it is of
pub record InForce {E : Type 0} (reading : Reading E) (machine d : ℕ) (id : ChangeId) (log : List E)
    : Type 0 where
  pub counted : 1 ≤ number reading log
  pub uuid : id.uuid ≡ packed machine d (epoch reading log)
  pub seq : id.seq ≡ number reading log

parts_at : (b : Bool) (u n : ℕ) (id : ChangeId) → eqb n 0 ≡ b
    → cond b None (Some (record { uuid = u; seq = n })) ≡ Some id
    → (1 ≤ n) × (id.uuid ≡ u) × (id.seq ≡ n)
parts_at true u n id zero_number h = absurd (none-some id h)
parts_at false u n id some_number h =
    let made : ChangeId = record { uuid = u; seq = n } in
    let same : made ≡ id = same_Some made id h in
    let not_zero = eqb-false n 0 some_number in (
      omega (arith, not_zero),
      sym (ap (λ (x : ChangeId). x.uuid) same),
      sym
          (ap (λ (x : ChangeId). x.seq) same),
    )

pub in_force-parts : {E : Type 0} (reading : Reading E) (machine d : ℕ) (id : ChangeId)
    (log : List E) → in_force reading machine d log ≡ Some id → InForce reading machine d id log
in_force-parts {E = E} reading machine d id log h =
    let parts = parts_at (eqb (number reading log) 0) (packed machine d (epoch reading log))
    (number reading log) id refl h in
    record { counted = parts.0; uuid = parts.1; seq = parts.2 }

made_of : (u n : ℕ) (id : ChangeId) → id.uuid ≡ u → id.seq ≡ n
    → ◌≡◌ {A = ChangeId} (record { uuid = u; seq = n }) id
made_of u n id is_u is_n =
    ap (λ (x : ℕ). id_of x n) (sym is_u) ∙ ap (λ (y : ℕ). id_of id.uuid y) (sym is_n)

pub in_force-made : {E : Type 0} (reading : Reading E) (machine d : ℕ) (id : ChangeId)
    (log : List E) → InForce reading machine d id log → in_force reading machine d log ≡ Some id
in_force-made {E = E} reading machine d id log parts =
    let some : number reading log ≡ 0 → ⊥ = λ e. let low = parts.counted in
    absurd (omega (arith, low, e)) in
    ap (λ b. cond b None (Some (id_of (packed machine d (epoch reading log)) (number reading log))))
    (ne_eqb (number reading log) 0 some)
    ∙ ap Some (made_of (packed machine d (epoch reading log)) (number reading log) id parts.uuid
    parts.seq)

behind : (x a b : ℕ) → x + a ≡ x + b → a ≡ b
behind x a b h = omega arith

-- of one machine and disk, equal UUIDs are of equal epochs
pub same-epochs : (machine d a b : ℕ) → packed machine d a ≡ packed machine d b → a ≡ b
same-epochs machine d a b h = behind (machine * 2 ^ 96 + d * 2 ^ 64) a b h

-- ---- the test

passed-at : (b : Bool) (u n : ℕ) (id : ChangeId) → eqb n 0 ≡ b
    → is_id id (cond b None (Some (record { uuid = u; seq = n }))) ≡ true
    → (1 ≤ n) × (id.uuid ≡ u) × (id.seq ≡ n)
passed-at true u n id zero_number h = absurd (false≢true h)
passed-at false u n id some_number h =
    let parts = and_parts (u == id.uuid) (n == id.seq) h in
    let not_zero = eqb-false n 0 some_number in
    (omega (arith, not_zero), sym (eqb-true u id.uuid parts.0), sym (eqb-true n id.seq parts.1))

pub passed : {E : Type 0} (reading : Reading E) (machine d : ℕ) (id : ChangeId) (log : List E)
    → is_id id (in_force reading machine d log) ≡ true → InForce reading machine d id log
passed {E = E} reading machine d id log h =
    let parts = passed-at (eqb (number reading log) 0) (packed machine d (epoch reading log))
    (number reading log) id refl h in
    record { counted = parts.0; uuid = parts.1; seq = parts.2 }

pub passes : {E : Type 0} (reading : Reading E) (machine d : ℕ) (id : ChangeId) (log : List E)
    → InForce reading machine d id log → is_id id (in_force reading machine d log) ≡ true
passes {E = E} reading machine d id log h =
    ap (is_id id) (in_force-made reading machine d id log h)
    ∙ ap (λ x. x && id.seq == id.seq) (eq-eqb id.uuid id.uuid refl) ∙ eq-eqb id.seq id.seq refl

-- ---- the place with an identifier is one, and that of a snapshot

-- before the place whose entry takes the snapshot, the identifier isn't in force
not-before : {E : Type 0} (reading : Reading E) (machine d : ℕ) (id : ChangeId) (log : List E)
    (place k : ℕ) → HasId reading machine d id log place → k < place
    → is_id id (in_force reading machine d (take (k + 1) log)) ≡ true → ⊥
not-before {E = E} reading machine d id log place k has less here =
    let within = has.snapshot.within in
    let whole : List E = take (place + 1) log in
    let there = in_force-parts reading machine d id whole has.identified in
    let early = passed reading machine d id (take (k + 1) log) here in
    let short : take (k + 1) whole ≡ take (k + 1) log =
    take-take (k + 1) (place + 1) log (omega arith) in
    let all : take (place + 1) whole ≡ whole =
    take-take (place + 1) (place + 1) log (omega arith) in
    let epochs : epoch reading (take (k + 1) log) ≡ epoch reading whole =
    same-epochs machine d (epoch reading (take (k + 1) log)) (epoch reading whole)
    (sym early.uuid ∙ there.uuid) in
    let low : 1 ≤ id.seq = let l = there.counted in let q = there.seq in omega (arith, l, q) in
    once reading id.seq k place whole low less (ap (epoch reading) short ∙ epochs)
    (ap (number reading) short ∙ sym early.seq)
    (record {
      snapshot = record {
        within = omega (arith, within, length-take (place + 1) log);
        by_snap = λ e read. has.snapshot.by_snap e (read-take log (place + 1) place e read);
      };
      same_epoch = ap (epoch reading) all;
      numbered = ap (number reading) all ∙ sym there.seq;
    })

fails-before : {E : Type 0} (reading : Reading E) (machine d : ℕ) (id : ChangeId) (log : List E)
    (place k : ℕ) (b : Bool) → HasId reading machine d id log place → k < place
    → is_id id (in_force reading machine d (take (k + 1) log)) ≡ b → b ≡ false
fails-before {E = E} reading machine d id log place k true has less is =
    absurd (not-before reading machine d id log place k has less is)
fails-before {E = E} reading machine d id log place k false has less is = refl

pub found-has : {E : Type 0} (reading : Reading E) (machine d : ℕ) (id : ChangeId) (log : List E)
    (place : ℕ) → HasId reading machine d id log place
    → mark_of_id reading machine d id log ≡ Some place
found-has {E = E} reading machine d id log place has =
    let test : ℕ → Bool = λ k. is_id id (in_force reading machine d (take (k + 1) log)) in
    let at : 0 + place ≡ place = omega arith in
    let within = has.snapshot.within in
    find-range_at test 0 (length log) place within
    (λ k less. let same : 0 + k ≡ k = omega arith in
    ap test same ∙ fails-before reading machine d id log place k (test k) has less refl)
    (ap test at ∙ passes reading machine d id (take (place + 1) log)
    (in_force-parts reading machine d id (take (place + 1) log) has.identified))
    ∙ ap Some at

-- where an entry takes no snapshot, the place before it had the identifier too
no-snap : {E : Type 0} (reading : Reading E) (machine d k : ℕ) (id : ChangeId) (log : List E)
    (e : E) → take (suc k) log ≡ take k log ++ e ∷ [] → reading.is_snap e ≡ false
    → InForce reading machine d id (take (suc k) log)
    → ((j : ℕ) → 0 ≤ j → j < k → is_id id (in_force reading machine d (take (j + 1) log)) ≡ false)
    → ⊥
no-snap {E = E} reading machine d zero id log e upto none here first =
    let zero_now : number reading (take 1 log) ≡ 0 =
    ap (number reading) upto ∙ not_started (reading.enables e) in
    let low = here.counted in
    absurd (omega (arith, zero_now, low))
no-snap {E = E} reading machine d (suc j) id log e upto none here first =
    let short : List E = take (suc j) log in
    let low : 1 ≤ id.seq = let l = here.counted in let q = here.seq in omega (arith, l, q) in
    let old = no_new_number reading id.seq short e (counted reading short) (reading.resets e) refl
    refl none low (ap (number reading) (sym upto) ∙ sym here.seq) in
    let same_place : take (j + 1) log ≡ short = ap (λ m. take m log) (add-one j) in
    let epochs : epoch reading (take (suc (suc j)) log) ≡ epoch reading short =
    ap (epoch reading) upto ∙ epoch-last reading short e old.1 in
    let was : InForce reading machine d id short =
    record {
      counted = omega (arith, old.0, low);
      uuid = here.uuid
          ∙ ap (packed machine d) epochs;
      seq = sym old.0;
    } in
    false≢true (sym (first j (omega arith) (omega arith))
    ∙ ap (λ (xs : List E). is_id id (in_force reading machine d xs)) same_place
    ∙ passes reading machine d id short was)

snap-there : {E : Type 0} (reading : Reading E) (machine d k : ℕ) (id : ChangeId) (log : List E)
    (e : E) (b : Bool) → take (suc k) log ≡ take k log ++ e ∷ [] → reading.is_snap e ≡ b
    → InForce reading machine d id (take (suc k) log)
    → ((j : ℕ) → 0 ≤ j → j < k → is_id id (in_force reading machine d (take (j + 1) log)) ≡ false)
    → reading.is_snap e ≡ true
snap-there {E = E} reading machine d k id log e true upto is here first = is
snap-there {E = E} reading machine d k id log e false upto is here first =
    absurd (no-snap reading machine d k id log e upto is here first)

pub has-found : {E : Type 0} (reading : Reading E) (machine d : ℕ) (id : ChangeId) (log : List E)
    (place : ℕ) → mark_of_id reading machine d id log ≡ Some place
    → HasId reading machine d id log place
has-found {E = E} reading machine d id log place h =
    let test : ℕ → Bool = λ k. is_id id (in_force reading machine d (take (k + 1) log)) in
    let found : FoundAt test 0 (length log) place = found-in test 0 (length log) place h in
    let within : place < length log = let b = found.below in omega (arith, b) in
    let entry = at_place log place within in
    let next : take (suc place) log ≡ take (place + 1) log =
    ap (λ m. take m log) (sym (add-one place)) in
    let here : InForce reading machine d id (take (place + 1) log) =
    passed reading machine d id (take (place + 1) log) found.passes_there in
    let taken : reading.is_snap entry.0 ≡ true =
    snap-there reading machine d place id log entry.0 (reading.is_snap entry.0) entry.2 refl
    (subst (InForce reading machine d id) (sym next) here) found.none_before in
    record {
      snapshot = record {
        within = within;
        by_snap = λ x read. subst (λ (y : E). reading.is_snap y ≡ true)
            (same_Some entry.0 x (sym entry.1 ∙ read)) taken;
      };
      identified = in_force-made reading machine d id (take (place + 1) log) here;
    }

pub stays-has : {E : Type 0} (reading : Reading E) (machine d : ℕ) (id : ChangeId)
    (log more : List E) (place : ℕ) → HasId reading machine d id log place
    → HasId reading machine d id (log ++ more) place
stays-has {E = E} reading machine d id log more place has =
    let within = has.snapshot.within in
    record {
      snapshot = record {
        within = omega (arith, within, length-append log more);
        by_snap = λ e read. has.snapshot.by_snap e (read-front log more place e within read);
      };
      identified = ap (in_force reading machine d)
          (take-append-le (place + 1) log more (omega (arith, within))) ∙ has.identified;
    }

-- ---- the entry at a mark

pub takes-at_mark : {E : Type 0} (takes : ℕ → E → Bool) (s : ℕ) (log : List E) (e : E)
    → slice_get log (mark takes s log) ≡ Some e → takes s e ≡ true
takes-at_mark {E = E} takes s log e read =
    subst (λ (x : E). takes s x ≡ true) (get_or_from_slice_get log (mark takes s log) e e read)
    (passes_at_first (takes s) log e (slice_get_within log (mark takes s log) e read))

pub marks_of_ids : {E : Type 0} (reading : Reading E) (machine d : ℕ) (id : ChangeId) (log : List E)
    → IsApart reading → MarksOfIds reading machine d id log
marks_of_ids reading machine d id log apart = record {
  found = found-has reading machine d id log;
  has = has-found reading machine d id log;
  of_snapshot = λ s within own. found-has reading machine d id log (mark reading.takes s log)
      (record {
        snapshot = record {
          within = within;
          by_snap = λ e read. apart.takes_snap s e (takes-at_mark reading.takes s log e read);
        };
        identified = own;
      });
  stays = λ place more h. found-has reading machine d id (log ++ more) place
      (stays-has reading machine d id log more place (has-found reading machine d id log place h));
}

-- the entry that takes a snapshot resets nothing
pub epoch-there : {E : Type 0} (reading : Reading E) (log : List E) (place : ℕ) → IsApart reading
    → TakesSnapshot reading.is_snap log place
    → epoch reading (take (place + 1) log) ≡ epoch reading (take place log)
epoch-there {E = E} reading log place apart snapshot =
    let here = at_place log place snapshot.within in
    let e : E = here.0 in
    let upto : take (place + 1) log ≡ take place log ++ e ∷ [] =
    ap (λ m. take m log) (add-one place) ∙ here.2 in
    ap (epoch reading) upto
    ∙ epoch-last reading (take place log) e
    (apart.snap_resets_none e (snapshot.by_snap e here.1))

-- ---- after more entries

pub mark-stays : {E : Type 0} (takes : ℕ → E → Bool) (s : ℕ) (log more : List E)
    → mark takes s log < length log → mark takes s (log ++ more) ≡ mark takes s log
mark-stays takes s log more less = prefix_len-append (λ e. not (takes s e)) log more less

pub later_entries_keep : {E : Type 0} (reading : Reading E) (s : ℕ) (log more : List E)
    → mark reading.takes s log < length log → LaterKeep reading s log more
later_entries_keep reading s log more less =
    let same : mark reading.takes s (log ++ more) ≡ mark reading.takes s log =
    mark-stays reading.takes s log more less in
    let short : mark reading.takes s log ≤ length log = omega arith in
    let next : mark reading.takes s log + 1 ≤ length log = omega arith in
    let front : before reading.takes s (log ++ more) ≡ before reading.takes s log =
    ap (λ n. take n (log ++ more)) same
    ∙ take-append-le (mark reading.takes s log) log more short in
    let upto : through reading.takes s (log ++ more) ≡ through reading.takes s log =
    ap (λ n. take (n + 1) (log ++ more)) same
    ∙ take-append-le (mark reading.takes s log + 1) log more next in
    record {
      mark_stays = same;
      before_stays = front;
      through_stays = upto;
      id_stays = λ machine d. ap (in_force reading machine d) upto;
    }
