use Rattle.std.proofs.Common.{ℕ, List, Some, IsOk, ap, ◌∙◌, arith}
use Rattle.sector_model.specs.Page.{page_from}
use Rattle.sector_model.specs.Run.{areas_of}
use Rattle.log_model.specs.declared.entry.Entry.{Entry}
use Rattle.warm_core.specs.declared.stage_state.StageState.{StageState}
use Rattle.warm_core.specs.StageState.{MayAsk}
use Rattle.warm_core.specs.Staged.{blocks_asked}
use Rattle.log_model.specs.Touched.{touched_by}
use Rattle.warm_core.specs.DiskWorld.{world_of}
use Rattle.warm_core.specs.World.{World}
use Rattle.warm_core.specs.Events.{answer_now}
use Rattle.warm_core.proofs.Numbers.{full-ready}
use Rattle.warm_core.proofs.EffectLemmas.{order-of, sized-of, runs-at, page-lies, page-effect}
use Rattle.warm_core.proofs.effects.take_page.Goals as goal

pub entries_asked-requires : goal.entries_asked-requires
entries_asked-requires c =
    let within = (c.requires.sound.sound.snap_is c.in-Some-Some.snap c.in-Some-Some.is-0).within in
    omega (arith, within)

pub answer_page-requires : goal.answer_page-requires
answer_page-requires c =
    let w : World = world_of c.args.world.now in
    let t = c.in-Some-Some.stage in
    let may = runs-at w (λ blocks snap t. MayAsk blocks t × IsOk (answer_now w snap t))
    c.in-Some-Some.snap t c.in-Some-Some.is-0 c.in-Some-Some.is-1 c.requires.happens in
    let sized = sized-of w t c.requires.sound.sound c.in-Some-Some.is-1 in
    let more = may.0.more in omega (arith, sized, more)

pub area_page-requires-clause-order : goal.area_page-requires-clause-order
area_page-requires-clause-order c =
    order-of (world_of c.args.world.now) c.in-Some-Some.stage c.requires.sound.sound
    c.in-Some-Some.is-1

pub area_page-requires-clause-lies : goal.area_page-requires-clause-lies
area_page-requires-clause-lies c =
    let w : World = world_of c.args.world.now in
    let s = c.in-Some-Some.snap in
    let t = c.in-Some-Some.stage in
    let may = runs-at w (λ blocks snap t. MayAsk blocks t × IsOk (answer_now w snap t)) s t
    c.in-Some-Some.is-0 c.in-Some-Some.is-1 c.requires.happens in
    let sized = sized-of w t c.requires.sound.sound c.in-Some-Some.is-1 in
    let more = may.0.more in
    page-lies w s t c.answer_page.new.page (omega arith) c.requires.sound.sound c.in-Some-Some.is-0
    c.in-Some-Some.is-1 (omega (arith, sized, more))
    (c.answer_page.ensures
    ∙ ap (λ (entries : List Entry). page_from w.capacity
    (areas_of w.capacity (touched_by w.capacity w.disk entries)) t.covered)
    c.entries_asked.ensures)

pub area_page-requires-clause-ready : goal.area_page-requires-clause-ready
area_page-requires-clause-ready c =
    let w : World = world_of c.args.world.now in
    let s = c.in-Some-Some.snap in
    let t = c.in-Some-Some.stage in
    let may = runs-at w (λ blocks snap t. MayAsk blocks t × IsOk (answer_now w snap t)) s t
    c.in-Some-Some.is-0 c.in-Some-Some.is-1 c.requires.happens in
    let blocks : List ℕ = blocks_asked w.capacity w.disk w.log w.base s t.full in
    λ full. full-ready blocks t.full t.at t.covered full
    (order-of w t c.requires.sound.sound c.in-Some-Some.is-1).passed may.0.ready

pub returns-clause-ok : goal.returns-clause-ok
returns-clause-ok c =
    let w : World = world_of c.args.world.now in
    let s = c.in-Some-Some.snap in
    let t = c.in-Some-Some.stage in
    let may = runs-at w (λ blocks snap t. MayAsk blocks t × IsOk (answer_now w snap t)) s t
    c.in-Some-Some.is-0 c.in-Some-Some.is-1 c.requires.happens in
    record {
      effect = ap (λ (t : StageState). record w { stage = Some t }) c.area_page.ensures.taken
          ∙ page-effect w s t c.answer_page.new.page (omega arith) c.requires.sound.sound
          c.in-Some-Some.is-0 c.in-Some-Some.is-1 may.1
          (c.answer_page.ensures
          ∙ ap (λ (entries : List Entry). page_from w.capacity
          (areas_of w.capacity (touched_by w.capacity w.disk entries)) t.covered)
          c.entries_asked.ensures);
      within = c.requires.sound.within;
    }
