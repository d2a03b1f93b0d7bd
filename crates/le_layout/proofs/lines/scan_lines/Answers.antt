use Rattle.std.proofs.Common.{◌≡◌, ◌+◌, ◌-◌, ◌++◌, length, take, drop, sym, ap, ap₂, ◌∙◌, arith}
use Rattle.std.proofs.lemmas.Result.{err_from_is_err_and}
use Rattle.le_layout.specs.Faults.{faults_at, unless_faulty}
use Rattle.le_layout.specs.Places.{place_behind}
use Rattle.le_layout.specs.Pieces.{pieces_of}
use Rattle.le_layout.specs.Layout.{line_of}
use Rattle.le_layout.proofs.RowLemmas.{row_of, no_faults, faults_on, room_on_row, tokens_on, lines_on, fault_on, faults_end, tokens_end, lines_end}
use Rattle.le_layout.proofs.StandLemmas.{stands_taken, stands_on}
use Rattle.le_layout.proofs.lines.scan_lines.Goals as goal

pub scan_line-requires-clause-lie : goal.scan_line-requires-clause-lie
scan_line-requires-clause-lie c = stands_taken c.args.text.now c.args.chars.now c.loop-at.at c.line_len.result c.loop-at.place c.loop-at.invariant.lie

pub returns-in_err-place : goal.returns-in_err-place
returns-in_err-place c =
    let p = err_from_is_err_and c.from_residual.result c.from_residual.ensures.1 in
    let row = row_of c.args.chars.now c.loop-at.at c.line_len.result c.loop-at-test.true c.line_len.ensures.value c.line_len.ensures.inside in
    rw (p.1, p.2) (fault_on c.args.chars.now _ c.loop-at.at c.line_len.result c.loop-at.place c.in_err-place.field-0.0 _ _ _ row c.in_err-place.ensures.place c.loop-at.invariant.faults)

pub loop-at-smaller : goal.loop-at-smaller
loop-at-smaller c =
    let row = row_of c.args.chars.now c.loop-at.at c.line_len.result c.loop-at-test.true c.line_len.ensures.value c.line_len.ensures.inside in
    omega (arith, row.some, row.within)

pub loop-at-preserved : goal.loop-at-preserved
loop-at-preserved c =
    let chars = c.args.chars.now in
    let at = c.loop-at.at in
    let n = c.line_len.result in
    let place = c.loop-at.place in
    let behind = c.in_ok-place.place in
    let line = take (at + n - at) (drop at chars) in
    let tokens = c.loop-at.tokens.items in
    let pushed = c.scan_line.new.tokens.items in
    let known = c.loop-at.invariant in
    let done = c.in_ok-place.ensures in
    let row = row_of chars at n c.loop-at-test.true c.line_len.ensures.value c.line_len.ensures.inside in
    let first : c.len-first.result ≡ length tokens = omega (arith, c.len-first.ensures) in
    record {
      inside = row.within;
      room = room_on_row chars line at n place behind row done.place known.room;
      lie = stands_on c.args.text.now chars at n place behind (sym (no_faults (place_behind place line) behind (faults_at place (pieces_of line)) done.place).0) known.lie;
      count = omega (arith, done.count, known.count, row.wide);
      faults = faults_on chars line at n place behind _ row done.place known.faults;
      tokens = tokens_on chars line at n place behind tokens pushed _ row done.place done.pushed known.tokens;
      lines = lines_on chars line at n c.len-first.result place behind tokens pushed c.loop-at.lines.items c.push_line.new.lines.items _ row done.place done.pushed first (c.in_ok-push_line.ensures ∙ ap (λ ts. c.loop-at.lines.items ++ line_of c.len-first.result (drop c.len-first.result ts)) c.as_slice.ensures.value) known.lines;
    }

pub returns : goal.returns
returns c =
    let chars = c.args.chars.now in
    let at = c.loop-at.at in
    let place = c.loop-at.place in
    let known = c.loop-at.invariant in
    ap₂ unless_faulty (ap₂ (λ ts ls. (ts, ls)) (sym (tokens_end chars at place c.loop-at.tokens.items _ c.loop-at-test.false known.tokens)) (sym (lines_end chars at _ place c.loop-at.lines.items _ c.loop-at-test.false known.lines)))
    (sym known.faults ∙ faults_end chars at place c.loop-at-test.false)
