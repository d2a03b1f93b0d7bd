use Rattle.std.proofs.Common.{◌++◌, sym, ap, ap₂, ◌∙◌, append-nil, arith}
use Rattle.le_layout.specs.Faults.{unless_faulty}
use Rattle.le_layout.specs.Layout.{as_list}
use Rattle.le_layout.proofs.RoomLemmas.{room_less}
use Rattle.le_layout.proofs.WalkLemmas.{place_none}
use Rattle.le_layout.proofs.StandLemmas.{stands_taken, stands_on, cut_out}
use Rattle.le_layout.proofs.StepLemmas.{step_of, step_place, step_later, step_room, step_faults, fault_found, no_fault, step_tokens, pushed_more, faults_past, tokens_past}
use Rattle.le_layout.proofs.lines.scan_line.Goals as goal

pub range-piece-requires-clause-start_le_end : goal.range-piece-requires-clause-start_le_end
range-piece-requires-clause-start_le_end c =
    let cut = cut_out c.args.text.now c.loop-at.place c.place_behind-behind.result _ (stands_taken c.args.text.now c.args.line.now c.loop-at.at c.first_piece-form.result.1 c.loop-at.place c.loop-at.invariant.lie) c.place_behind-behind.ensures in
    cut.ordered

pub range-piece-requires-clause-start_boundary : goal.range-piece-requires-clause-start_boundary
range-piece-requires-clause-start_boundary c =
    let cut = cut_out c.args.text.now c.loop-at.place c.place_behind-behind.result _ (stands_taken c.args.text.now c.args.line.now c.loop-at.at c.first_piece-form.result.1 c.loop-at.place c.loop-at.invariant.lie) c.place_behind-behind.ensures in
    λ h. cut.begins

pub range-piece-requires-clause-end_boundary : goal.range-piece-requires-clause-end_boundary
range-piece-requires-clause-end_boundary c =
    let cut = cut_out c.args.text.now c.loop-at.place c.place_behind-behind.result _ (stands_taken c.args.text.now c.args.line.now c.loop-at.at c.first_piece-form.result.1 c.loop-at.place c.loop-at.invariant.lie) c.place_behind-behind.ensures in
    cut.ends

pub fault_at-requires-clause-spelled : goal.fault_at-requires-clause-spelled
fault_at-requires-clause-spelled c =
    let cut = cut_out c.args.text.now c.loop-at.place c.place_behind-behind.result _ (stands_taken c.args.text.now c.args.line.now c.loop-at.at c.first_piece-form.result.1 c.loop-at.place c.loop-at.invariant.lie) c.place_behind-behind.ensures in
    c.range-piece.ensures.value ∙ cut.bytes

pub fault_at-requires-clause-room_behind : goal.fault_at-requires-clause-room_behind
fault_at-requires-clause-room_behind c =
    let line = c.args.line.now in
    let at = c.loop-at.at in
    let n = c.first_piece-form.result.1 in
    let cut = c.first_piece-form.ensures in
    let step = step_of line at n c.first_piece-form.result.0 c.loop-at.place c.place_behind-behind.result c.loop-at-test.true cut.some cut.inside cut.cut c.place_behind-behind.ensures in
    room_less c.place_behind-behind.result _ 0 (step_room line at n _ c.loop-at.place c.place_behind-behind.result step c.loop-at.invariant.room) (omega arith)

pub token_at-requires-clause-later : goal.token_at-requires-clause-later
token_at-requires-clause-later c =
    let line = c.args.line.now in
    let at = c.loop-at.at in
    let n = c.first_piece-form.result.1 in
    let cut = c.first_piece-form.ensures in
    let step = step_of line at n c.first_piece-form.result.0 c.loop-at.place c.place_behind-behind.result c.loop-at-test.true cut.some cut.inside cut.cut c.place_behind-behind.ensures in
    step_later line at n _ c.loop-at.place c.place_behind-behind.result step

pub returns-in-Some-clause-place : goal.returns-in-Some-clause-place
returns-in-Some-clause-place c =
    let line = c.args.line.now in
    let at = c.loop-at.at in
    let n = c.first_piece-form.result.1 in
    let cut = c.first_piece-form.ensures in
    let step = step_of line at n c.first_piece-form.result.0 c.loop-at.place c.place_behind-behind.result c.loop-at-test.true cut.some cut.inside cut.cut c.place_behind-behind.ensures in
    fault_found _ _ _ _ c.fault_at.result c.in-Some.refusal c.fault_at.ensures c.in-Some.is (sym c.loop-at.invariant.faults ∙ step_faults line at n _ c.loop-at.place c.place_behind-behind.result step)

pub loop-at-preserved-in_ok-push : goal.loop-at-preserved-in_ok-push
loop-at-preserved-in_ok-push c =
    let line = c.args.line.now in
    let at = c.loop-at.at in
    let n = c.first_piece-form.result.1 in
    let place = c.loop-at.place in
    let behind = c.place_behind-behind.result in
    let cut = c.first_piece-form.ensures in
    let known = c.loop-at.invariant in
    let step = step_of line at n c.first_piece-form.result.0 place behind c.loop-at-test.true cut.some cut.inside cut.cut c.place_behind-behind.ensures in
    record {
      inside = step.within;
      room = step_room line at n _ place behind step known.room;
      lie = stands_on c.args.text.now line at n place behind c.place_behind-behind.ensures known.lie;
      place = sym (step_place line at n _ place behind step) ∙ known.place;
      faults = no_fault _ _ _ c.fault_at.result c.fault_at.ensures c.in_default.is (step_faults line at n _ place behind step) ∙ known.faults;
      tokens = pushed_more c.loop-at.tokens.items c.push.new.self.items _ _ _ _ c.token_at.result c.token_at.ensures (c.in_ok-push.ensures.items ∙ ap (λ t. c.loop-at.tokens.items ++ as_list t) (sym c.in-Some-token_at.is)) (step_tokens line at n _ place behind step) known.tokens;
      count = omega (arith, c.in_ok-push.ensures.len, known.count, cut.some);
    }

pub loop-at-preserved : goal.loop-at-preserved
loop-at-preserved c =
    let line = c.args.line.now in
    let at = c.loop-at.at in
    let n = c.first_piece-form.result.1 in
    let place = c.loop-at.place in
    let behind = c.place_behind-behind.result in
    let cut = c.first_piece-form.ensures in
    let known = c.loop-at.invariant in
    let step = step_of line at n c.first_piece-form.result.0 place behind c.loop-at-test.true cut.some cut.inside cut.cut c.place_behind-behind.ensures in
    record {
      inside = step.within;
      room = step_room line at n _ place behind step known.room;
      lie = stands_on c.args.text.now line at n place behind c.place_behind-behind.ensures known.lie;
      place = sym (step_place line at n _ place behind step) ∙ known.place;
      faults = no_fault _ _ _ c.fault_at.result c.fault_at.ensures c.in_default.is (step_faults line at n _ place behind step) ∙ known.faults;
      tokens = pushed_more c.loop-at.tokens.items c.loop-at.tokens.items _ _ _ _ c.token_at.result c.token_at.ensures (sym (append-nil c.loop-at.tokens.items) ∙ ap (λ t. c.loop-at.tokens.items ++ as_list t) (sym c.in_default-token_at.is)) (step_tokens line at n _ place behind step) known.tokens;
      count = omega (arith, known.count);
    }

pub returns-clause-place : goal.returns-clause-place
returns-clause-place c =
    let line = c.args.line.now in
    let at = c.loop-at.at in
    let known = c.loop-at.invariant in
    ap₂ unless_faulty (sym known.place ∙ place_none c.loop-at.place line at c.loop-at-test.false) (sym known.faults ∙ faults_past c.loop-at.place line at c.loop-at-test.false)

pub returns-clause-pushed : goal.returns-clause-pushed
returns-clause-pushed c = tokens_past c.loop-at.place c.args.line.now c.loop-at.at c.loop-at.tokens.items _ c.loop-at-test.false c.loop-at.invariant.tokens
