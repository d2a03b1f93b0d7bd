-- The lines of an explanation, a step at a time.
use Rattle.std.proofs.Common.{◌≡◌, ℕ, suc, ◌+◌, ◌-◌, ◌<◌, List, [], ◌∷◌, ◌++◌, length, reverse, drop, take, get_or, refl, sym, ap, ◌∙◌, append_assoc, append-nil, arith}
use Rattle.std.specs.Prelude.{codes}
use Rattle.std.proofs.Math.Seq.{take-length}
use Rattle.std.proofs.lemmas.List.{reverse-append}
use Rattle.le_templates.specs.declared.part.Template.{Template}
use Rattle.le_terms.specs.declared.program.Program.{Program}
use Rattle.le_proofs.specs.declared.node.Node.{Node}
use Rattle.le_proofs.specs.Replay.{behind}
use Rattle.le_english.specs.declared.pending.Pending.{Pending}
use Rattle.le_english.specs.Explanations.{indent, node_line, pending_below, unshown_below, leaves, lines_of}
use Rattle.le_english.proofs.Passing.{lines-unshown}

-- a step of an indent more
pub indent-step : (text all : List ℕ) (depth step : ℕ) → step < depth → text ++ indent (depth - step) ≡ all → (text ++ codes "    ") ++ indent (depth - (step + 1)) ≡ all
indent-step text all depth step low so_far =
    let e : depth - step ≡ suc (depth - (step + 1)) = omega arith in
    append_assoc text (codes "    ") (indent (depth - (step + 1)))
    ∙ (ap (λ n. text ++ indent n) (sym e) ∙ so_far)

-- a proof is explained up to those below it
pub proof-step : (users : List Template) (names : List (List ℕ)) (program : Program) (text line : List ℕ) (cases : ℕ) (at : Pending) (stack before after : List Pending) (node : Node) (nodes rest : List Node) →
    stack ≡ before ++ at ∷ [] → line ≡ node_line users names program at node cases → cases ≡ leaves 0 (unshown_below node) nodes → rest ≡ behind (unshown_below node) nodes →
    reverse after ≡ pending_below program at.depth node (reverse before) →
    (text ++ line) ++ lines_of users names program 0 (reverse after) rest ≡ text ++ lines_of users names program 0 (reverse stack) (node ∷ nodes)
proof-step users names program text line cases at stack before after node nodes rest split line_is cases_is rest_is after_is =
    let turned : reverse stack ≡ at ∷ reverse before = ap reverse split ∙ reverse-append before (at ∷ []) in
    let below : List Pending = pending_below program at.depth node (reverse before) in
    let left : lines_of users names program 0 (reverse after) rest ≡ lines_of users names program (unshown_below node) below nodes =
    ap (λ ps. lines_of users names program 0 ps rest) after_is
    ∙ (ap (λ ns. lines_of users names program 0 below ns) rest_is ∙ sym (lines-unshown users names program below (unshown_below node) nodes)) in
    let line_ : line ≡ node_line users names program at node (leaves 0 (unshown_below node) nodes) = line_is ∙ ap (node_line users names program at node) cases_is in
    append_assoc text line (lines_of users names program 0 (reverse after) rest)
    ∙ ap (λ t. text ++ t)
    (ap (λ t. t ++ lines_of users names program 0 (reverse after) rest) line_
    ∙ (ap (λ t. node_line users names program at node (leaves 0 (unshown_below node) nodes) ++ t) left
    ∙ ap (λ ps. lines_of users names program 0 ps (node ∷ nodes)) (sym turned)))

-- the same over all nodes, the first of which is the proof's
pub proof-at : (users : List Template) (names : List (List ℕ)) (program : Program) (text line : List ℕ) (cases len : ℕ) (at : Pending) (stack before after : List Pending) (node d : Node) (all : List Node) →
    0 < length all → get_or all 0 d ≡ node → stack ≡ before ++ at ∷ [] → line ≡ node_line users names program at node cases →
    cases ≡ leaves 0 (unshown_below node) (take (length all - 1) (drop 1 all)) → drop len (take (length all - 1) (drop 1 all)) ≡ behind (unshown_below node) (take (length all - 1) (drop 1 all)) →
    reverse after ≡ pending_below program at.depth node (reverse before) →
    (text ++ line) ++ lines_of users names program 0 (reverse after) (drop (1 + len) all) ≡ text ++ lines_of users names program 0 (reverse stack) all
proof-at users names program text line cases len at stack before after node d [] some first split line_is cases_is rest_is after_is = absurd (omega (arith, some))
proof-at users names program text line cases len at stack before after node d (x ∷ xs) some first split line_is cases_is rest_is after_is =
    let count : length (x ∷ xs) - 1 ≡ length xs = omega arith in
    let tail : take (length (x ∷ xs) - 1) (drop 1 (x ∷ xs)) ≡ xs = ap (λ n. take n xs) count ∙ take-length xs in
    let far : drop (1 + len) (x ∷ xs) ≡ drop len xs = ap (λ n. drop n (x ∷ xs)) (let e : 1 + len ≡ suc len = omega arith in e) in
    let rest : drop (1 + len) (x ∷ xs) ≡ behind (unshown_below node) xs = far ∙ (ap (drop len) (sym tail) ∙ (rest_is ∙ ap (behind (unshown_below node)) tail)) in
    proof-step users names program text line cases at stack before after node xs (drop (1 + len) (x ∷ xs)) split line_is (cases_is ∙ ap (leaves 0 (unshown_below node)) tail) rest after_is
    ∙ ap (λ y. text ++ lines_of users names program 0 (reverse stack) (y ∷ xs)) (sym first)

-- where nothing is to be shown any more, or no node is left, the text is whole
pub nodes-end : (users : List Template) (names : List (List ℕ)) (program : Program) (text all : List ℕ) (pending : List Pending) (nodes : List Node) → nodes ≡ [] →
    text ++ lines_of users names program 0 pending nodes ≡ all → text ≡ all
nodes-end users names program text all pending nodes none so_far = sym (append-nil text) ∙ (ap (λ ns. text ++ lines_of users names program 0 pending ns) (sym none) ∙ so_far)

pub stack-end : (users : List Template) (names : List (List ℕ)) (program : Program) (text all : List ℕ) (stack : List Pending) (nodes : List Node) → stack ≡ [] →
    text ++ lines_of users names program 0 (reverse stack) nodes ≡ all → text ≡ all
stack-end users names program text all stack nodes none so_far =
    sym (append-nil text) ∙ (ap (λ t. text ++ t) (sym (nothing nodes)) ∙ (ap (λ ps. text ++ lines_of users names program 0 (reverse ps) nodes) (sym none) ∙ so_far))
  where
    nothing : (nodes : List Node) → lines_of users names program 0 [] nodes ≡ []
    nothing [] = refl
    nothing (node ∷ nodes) = refl

-- six texts appended one after another
pub six : (text a b c d e f one two three four five last : List ℕ) → one ≡ text ++ a → two ≡ one ++ b → three ≡ two ++ c → four ≡ three ++ d → five ≡ four ++ e → last ≡ five ++ f →
    last ≡ text ++ (a ++ (b ++ (c ++ (d ++ (e ++ f)))))
six text a b c d e f one two three four five last is_one is_two is_three is_four is_five is_last =
    is_last
    ∙ (onto five four e f is_five ∙ (onto four three d (e ++ f) is_four ∙ (onto three two c (d ++ (e ++ f)) is_three
    ∙ (onto two one b (c ++ (d ++ (e ++ f))) is_two ∙ onto one text a (b ++ (c ++ (d ++ (e ++ f)))) is_one))))
  where
    onto : (next before piece rest : List ℕ) → next ≡ before ++ piece → next ++ rest ≡ before ++ (piece ++ rest)
    onto next before piece rest is = ap (λ t. t ++ rest) is ∙ append_assoc before piece rest
