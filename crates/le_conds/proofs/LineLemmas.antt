-- The first token of a line, one token back.
use Rattle.std.proofs.Common.{◌≡◌, ℕ, suc, ◌-◌, ◌<◌, true, false, cond, sym, ap, ◌∙◌, arith}
use Rattle.le_layout.specs.declared.layout.Layout.{Layout}
use Rattle.le_conds.specs.Openers.{is_first, line_begin}

begin_suc : (l : Layout) (k m : ℕ) → k ≡ suc m → line_begin l k ≡ cond (is_first l (suc m)) (suc m) (line_begin l m)
unfolding line_begin
begin_suc l k m e = ap (line_begin l) e

pub begin_back : (l : Layout) (k : ℕ) → 0 < k → is_first l k ≡ false → line_begin l (k - 1) ≡ line_begin l k
begin_back l k some e =
    let s : k ≡ suc (k - 1) = omega arith in
    sym (begin_suc l k (k - 1) s ∙ ap (λ b. cond b (suc (k - 1)) (line_begin l (k - 1))) (ap (is_first l) (sym s) ∙ e))

pub begin_here : (l : Layout) (k : ℕ) → 0 < k → is_first l k ≡ true → line_begin l k ≡ k
begin_here l k some e =
    let s : k ≡ suc (k - 1) = omega arith in
    begin_suc l k (k - 1) s ∙ ap (λ b. cond b (suc (k - 1)) (line_begin l (k - 1))) (ap (is_first l) (sym s) ∙ e) ∙ sym s

pub begin_zero : (l : Layout) (k : ℕ) → k ≡ 0 → line_begin l k ≡ k
unfolding line_begin
begin_zero l k e = ap (line_begin l) e ∙ sym e
