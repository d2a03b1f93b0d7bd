-- `==` of symbols says whether they are equal.
use Rattle.std.proofs.Common.{◌≡◌, ap, refl}
use Rattle.std.proofs.lemmas.Bool.Decides.{Decides-eqb, Decides-int_eq}
use Rattle.std.specs.Bool.{Decides}
use Rattle.le_terms.specs.declared.term.Sym.{Sym}
use Rattle.le_terms.specs.declared.term.Sym.TheVariants.{Name, Num, Day, Var, Nil, Cons}
use Rattle.le_terms.specs.contracts.term.SymPartialEq.TheImpl.{eq-value}

-- the test on two symbols
pub same_symbol : (a b : Sym) → Decides (eq-value.it a b) (a ≡ b)
same_symbol (Name m) (Name n) = (λ same. ap Name ((Decides-eqb m n).0 same), λ same. (Decides-eqb m n).1 (let inner : m ≡ n = (cc) in inner))
same_symbol (Name m) (Num n) = (λ same. (cc), λ same. (cc))
same_symbol (Name m) (Day n) = (λ same. (cc), λ same. (cc))
same_symbol (Name m) (Var n) = (λ same. (cc), λ same. (cc))
same_symbol (Name m) Nil = (λ same. (cc), λ same. (cc))
same_symbol (Name m) Cons = (λ same. (cc), λ same. (cc))
same_symbol (Num m) (Name n) = (λ same. (cc), λ same. (cc))
same_symbol (Num m) (Num n) = (λ same. ap Num ((Decides-int_eq m n).0 same), λ same. (Decides-int_eq m n).1 (let inner : m ≡ n = (cc) in inner))
same_symbol (Num m) (Day n) = (λ same. (cc), λ same. (cc))
same_symbol (Num m) (Var n) = (λ same. (cc), λ same. (cc))
same_symbol (Num m) Nil = (λ same. (cc), λ same. (cc))
same_symbol (Num m) Cons = (λ same. (cc), λ same. (cc))
same_symbol (Day m) (Name n) = (λ same. (cc), λ same. (cc))
same_symbol (Day m) (Num n) = (λ same. (cc), λ same. (cc))
same_symbol (Day m) (Day n) = (λ same. ap Day ((Decides-int_eq m n).0 same), λ same. (Decides-int_eq m n).1 (let inner : m ≡ n = (cc) in inner))
same_symbol (Day m) (Var n) = (λ same. (cc), λ same. (cc))
same_symbol (Day m) Nil = (λ same. (cc), λ same. (cc))
same_symbol (Day m) Cons = (λ same. (cc), λ same. (cc))
same_symbol (Var m) (Name n) = (λ same. (cc), λ same. (cc))
same_symbol (Var m) (Num n) = (λ same. (cc), λ same. (cc))
same_symbol (Var m) (Day n) = (λ same. (cc), λ same. (cc))
same_symbol (Var m) (Var n) = (λ same. ap Var ((Decides-eqb m n).0 same), λ same. (Decides-eqb m n).1 (let inner : m ≡ n = (cc) in inner))
same_symbol (Var m) Nil = (λ same. (cc), λ same. (cc))
same_symbol (Var m) Cons = (λ same. (cc), λ same. (cc))
same_symbol Nil (Name n) = (λ same. (cc), λ same. (cc))
same_symbol Nil (Num n) = (λ same. (cc), λ same. (cc))
same_symbol Nil (Day n) = (λ same. (cc), λ same. (cc))
same_symbol Nil (Var n) = (λ same. (cc), λ same. (cc))
same_symbol Nil Nil = (λ _. refl, λ _. refl)
same_symbol Nil Cons = (λ same. (cc), λ same. (cc))
same_symbol Cons (Name n) = (λ same. (cc), λ same. (cc))
same_symbol Cons (Num n) = (λ same. (cc), λ same. (cc))
same_symbol Cons (Day n) = (λ same. (cc), λ same. (cc))
same_symbol Cons (Var n) = (λ same. (cc), λ same. (cc))
same_symbol Cons Nil = (λ same. (cc), λ same. (cc))
same_symbol Cons Cons = (λ _. refl, λ _. refl)
