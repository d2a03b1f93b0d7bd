use Rattle.std.proofs.Common.{rules, ◌-◌, ◌<◌, length, take, drop, sym}
use Rattle.std.proofs.lemmas.Bool.Decides.{Decides-eqb}
use Rattle.le_terms.specs.declared.term.Sym.TheVariants.{Name}
use Rattle.le_terms.specs.Tree.{tree_of}
use Rattle.le_subst.specs.Symbols.{equations_of}
use Rattle.le_subst.specs.Steps.{StepMeans, BindMeans}
use Rattle.le_subst.proofs.Parting.{first, right-some, solved-none, positive, if_ok, bound-left, bound-right, bound-neither, left-begins, right-begins}
use Rattle.le_subst.proofs.solving.parted.Goals as goal

pub returns-then-is_empty : goal.returns-then-is_empty
returns-then-is_empty c = solved-none c.args.left.now c.args.right.now c.requires.sides ((Decides-eqb (length c.args.left.now) 0).0 (sym c.if-is_empty.ensures))

pub bounds-right-0 : goal.bounds-right-0
bounds-right-0 c =
    let some : 0 < length c.args.left.now = positive (length c.args.left.now) c.if-is_empty.ensures in
    let h : 0 < length c.args.right.now = right-some c.args.left.now c.args.right.now (first c.args.left.now c.args.right.now c.requires.sides some) in
    search rules

pub unwrap-len-requires : goal.unwrap-len-requires
unwrap-len-requires c =
    right-begins c.args.left.now c.args.right.now c.requires.sides (positive (length c.args.left.now) c.if-is_empty.ensures) c.first_term_len.result c.first_term_len.ensures.every

pub bind-requires-clause-term : goal.bind-requires-clause-term
bind-requires-clause-term c =
    (bound-left c.args.left.now c.args.right.now c.requires.sides (positive (length c.args.left.now) c.if-is_empty.ensures) c.requires.differ
    (Name 0) c.in-Left.var c.unwrap-len.result c.first_term_len.result c.in-Left.ensures c.first_term_len.ensures.every c.unwrap-len.ensures).term

pub bind-requires-clause-sides : goal.bind-requires-clause-sides
bind-requires-clause-sides c =
    (bound-left c.args.left.now c.args.right.now c.requires.sides (positive (length c.args.left.now) c.if-is_empty.ensures) c.requires.differ
    (Name 0) c.in-Left.var c.unwrap-len.result c.first_term_len.result c.in-Left.ensures c.first_term_len.ensures.every c.unwrap-len.ensures).sides

pub unwrap-len-requires-in-Right : goal.unwrap-len-requires-in-Right
unwrap-len-requires-in-Right c =
    left-begins c.args.left.now c.args.right.now c.requires.sides (positive (length c.args.left.now) c.if-is_empty.ensures) c.first_term_len-in-Right.result c.first_term_len-in-Right.ensures.every

pub bind-requires-in-Right-clause-term : goal.bind-requires-in-Right-clause-term
bind-requires-in-Right-clause-term c =
    (bound-right c.args.left.now c.args.right.now c.requires.sides (positive (length c.args.left.now) c.if-is_empty.ensures) c.requires.differ
    (Name 0) c.in-Right.var c.unwrap-len-in-Right.result c.first_term_len-in-Right.result c.in-Right.ensures c.first_term_len-in-Right.ensures.every c.unwrap-len-in-Right.ensures).term

pub bind-requires-in-Right-clause-sides : goal.bind-requires-in-Right-clause-sides
bind-requires-in-Right-clause-sides c =
    (bound-right c.args.left.now c.args.right.now c.requires.sides (positive (length c.args.left.now) c.if-is_empty.ensures) c.requires.differ
    (Name 0) c.in-Right.var c.unwrap-len-in-Right.result c.first_term_len-in-Right.result c.in-Right.ensures c.first_term_len-in-Right.ensures.every c.unwrap-len-in-Right.ensures).sides

pub returns-in-Left : goal.returns-in-Left
returns-in-Left c =
    let left = c.args.left.now in
    let right = c.args.right.now in
    let n = c.unwrap-len.result in
    if_ok c.bind.result
    (λ step. BindMeans step c.in-Left.var (tree_of (take n right)) (equations_of (take (length left - 1) (drop 1 left)) (take (length right - n) (drop n right))))
    (λ step. StepMeans step (equations_of left right))
    (bound-left left right c.requires.sides (positive (length left) c.if-is_empty.ensures) c.requires.differ
    (Name 0) c.in-Left.var n c.first_term_len.result c.in-Left.ensures c.first_term_len.ensures.every c.unwrap-len.ensures).means
    c.bind.ensures

pub returns-in-Right : goal.returns-in-Right
returns-in-Right c =
    let left = c.args.left.now in
    let right = c.args.right.now in
    let n = c.unwrap-len-in-Right.result in
    if_ok c.bind-in-Right.result
    (λ step. BindMeans step c.in-Right.var (tree_of (take n left)) (equations_of (take (length left - n) (drop n left)) (take (length right - 1) (drop 1 right))))
    (λ step. StepMeans step (equations_of left right))
    (bound-right left right c.requires.sides (positive (length left) c.if-is_empty.ensures) c.requires.differ
    (Name 0) c.in-Right.var n c.first_term_len-in-Right.result c.in-Right.ensures c.first_term_len-in-Right.ensures.every c.unwrap-len-in-Right.ensures).means
    c.bind-in-Right.ensures

pub returns-in-Neither : goal.returns-in-Neither
returns-in-Neither c =
    bound-neither c.args.left.now c.args.right.now c.requires.sides (positive (length c.args.left.now) c.if-is_empty.ensures) c.requires.differ (Name 0) c.in-Neither.ensures
