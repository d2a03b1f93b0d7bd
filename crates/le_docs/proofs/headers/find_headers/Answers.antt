use Rattle.std.proofs.Common.{◌≡◌, ◌+◌, ◌<◌, ◌≤◌, ◌++◌, List, length, get_or, drop, IfSome, sym, ap, ◌∙◌, subst}
use Rattle.std.specs.Option.{option_to_list}
use Rattle.std.specs.List.{All}
use Rattle.std.proofs.lemmas.List.{append-nil, drop_all}
use Rattle.std.proofs.lemmas.List.Elements.{All-push}
use Rattle.le_docs.specs.Bounds.{IsHeadOver}
use Rattle.le_layout.specs.declared.token.Line.{Line}
use Rattle.le_docs.specs.Faults.{least_from}
use Rattle.le_docs.specs.Headers.{IsHeadIn, head_of, heads_of, line_faults, lines_faults}
use Rattle.le_docs.proofs.HeaderLemmas.{no_line, heads_step, heads_end, lines_step, lines_end, pushed, head_over}
use Rattle.le_docs.proofs.headers.find_headers.Goals as goal
use Rattle.le_docs.proofs.headers.find_headers.Goals.{in-Some+in_ok-push, in_default}

pub loop-line-preserved : goal.loop-line-preserved
loop-line-preserved c =
    let l = c.args.layout.now in
    let i = c.loop-line.line-index in
    let line = get_or l.lines i no_line in
    let low = subst (λ (ls : List Line). i < length ls) c.as_slice-line-items.ensures c.loop-line-test.true in
    let head = c.head_of-head.ensures.exact ∙ ap (λ (ls : List Line). head_of l (get_or ls i no_line)) c.as_slice-line-items.ensures in
    let within = subst (λ (ls : List Line). IfSome c.head_of-head.result (IsHeadIn (get_or ls i no_line))) c.as_slice-line-items.ensures c.head_of-head.ensures.within in
    let fault = c.with_line_fault-least.ensures
    ∙ ap (λ (ls : List Line). least_from c.loop-line.least (line_faults l (get_or ls i no_line) c.head_of-head.result)) c.as_slice-line-items.ensures
    ∙ ap (λ o. least_from c.loop-line.least (line_faults l line o)) head in
    let found : c.match-head.heads.items ≡ c.loop-line.heads.items ++ option_to_list c.head_of-head.result =
    elim c.match-head.branch [
      | in-Some+in_ok-push w ↦
          ap (λ v. v.items) w.heads-is ∙ w.in_ok-push.ensures.items ∙ ap (λ o. c.loop-line.heads.items ++ option_to_list o) (sym w.in-Some.is)
      | in_default w ↦
          ap (λ v. v.items) w.heads-is ∙ sym (append-nil c.loop-line.heads.items) ∙ ap (λ o. c.loop-line.heads.items ++ option_to_list o) (sym w.in_default.is)
    ] in
    record {
      heads = pushed c.loop-line.heads.items _ c.head_of-head.result c.match-head.heads.items _ found
          (ap (λ o. c.loop-line.heads.items ++ (option_to_list o ++ heads_of l (drop (i + 1) l.lines))) head
          ∙ ap (λ hs. c.loop-line.heads.items ++ hs) (sym (heads_step l i low))
          ∙ c.loop-line.invariant.heads);
      within = elim c.match-head.branch [
        | in-Some+in_ok-push w ↦
            subst (All (IsHeadOver (length l.tokens))) (sym (ap (λ v. v.items) w.heads-is ∙ w.in_ok-push.ensures.items))
            (All-push (IsHeadOver (length l.tokens)) c.loop-line.heads.items _ c.loop-line.invariant.within (head_over (length l.tokens) line c.head_of-head.result _ (c.requires.layout.lines i no_line low) within w.in-Some.is))
        | in_default w ↦ subst (All (IsHeadOver (length l.tokens))) (sym (ap (λ v. v.items) w.heads-is)) c.loop-line.invariant.within
      ];
      least = ap (λ x. least_from x (lines_faults l (drop (i + 1) l.lines))) fault ∙ sym (lines_step l i c.loop-line.least low) ∙ c.loop-line.invariant.least;
    }

pub returns-clause-heads : goal.returns-clause-heads
returns-clause-heads c =
    let l = c.args.layout.now in
    let i = c.loop-line.line-index in
    let high = subst (λ (ls : List Line). length ls ≤ i) c.as_slice-line-items.ensures c.loop-line-test.false in
    sym (append-nil c.loop-line.heads.items)
    ∙ ap (λ hs. c.loop-line.heads.items ++ hs) (sym (heads_end l (drop i l.lines) (drop_all i l.lines high)))
    ∙ c.loop-line.invariant.heads

pub returns-clause-least : goal.returns-clause-least
returns-clause-least c =
    let l = c.args.layout.now in
    let i = c.loop-line.line-index in
    let high = subst (λ (ls : List Line). length ls ≤ i) c.as_slice-line-items.ensures c.loop-line-test.false in
    sym (lines_end l c.loop-line.least (drop i l.lines) (drop_all i l.lines high)) ∙ c.loop-line.invariant.least
