-- The tokens of a section are those that its header governs.
use Rattle.std.proofs.Common.{◌≡◌, ℕ, ◌+◌, ◌<◌, ◌≤◌, ◌↔◌, ⊎_elim, Bool, true, false, cond, nat_lt, List, [], ◌∷◌, ◌++◌, length, codes, slice_range, Option, None, Some, IfSome, append_assoc, refl, sym, ap, ◌∙◌, subst, arith}
use Rattle.std.specs.Option.{option_to_list}
use Rattle.std.specs.List.{All}
use Rattle.std.proofs.lemmas.Bool.{cases_lt, ltb-true}
use Rattle.std.proofs.lemmas.List.Elements.{All-nil, All-cons, All-push, All-append, All-head, All-tail}
use Rattle.le_layout.specs.declared.token.Token.{Token}
use Rattle.le_layout.specs.declared.token.Line.{Line}
use Rattle.le_layout.specs.declared.layout.Layout.{Layout}
use Rattle.le_layout.specs.Layout.{IsLayout, IsLineOver, Follow}
use Rattle.le_layout.specs.Words.{is_colon}
use Rattle.le_docs.specs.declared.doc.SectionKind.TheVariants as kinds
use Rattle.le_docs.specs.declared.headers.Head.{Head}
use Rattle.le_docs.specs.Kinds.{same_kind}
use Rattle.le_docs.specs.Headers.{colon_from, first_colon, is_target, is_templates, is_knowledge, is_named, head_in, head_of, heads_of}
use Rattle.le_docs.specs.Sections.{next_at, section_at, sections_under, all_sections}
use Rattle.le_docs.specs.Rule.{Governs, IsSectionOf, AreSectionsOf}
use Rattle.le_docs.proofs.SentenceLemmas.{sentences_are, unended_there, one_holds}

-- ---- a header begins with its line and ends in it

colon_low : (at : ℕ) (ts : List Token) → at ≤ colon_from at ts
colon_low at [] = omega arith
colon_low at (t ∷ ts) = by (is_colon t.kind) (colon_low (at + 1) ts) where
  by : (b : Bool) → at + 1 ≤ colon_from (at + 1) ts → at ≤ cond b at (colon_from (at + 1) ts)
  by true later = omega arith
  by false later = omega (arith, later)

picked : (P : Head → Type 0) (b : Bool) (h : Head) (o : Option Head) → P h → IfSome o P → IfSome (cond b (Some h) o) P
picked P true h o this other = this
picked P false h o this other = other

head_at : (l : Layout) (from colon : ℕ) → IfSome (head_in l from colon) (λ h. (h.at ≡ from) × (h.body ≡ colon + 1))
unfolding head_in
head_at l from colon =
    let P = λ (h : Head). (h.at ≡ from) × (h.body ≡ colon + 1) in
    picked P (is_target l from colon) _ _ (refl, refl)
    (picked P (is_templates l from colon) _ _ (refl, refl)
    (picked P (is_knowledge l from colon) _ _ (refl, refl)
    (picked P (is_named l (codes "scenario") from colon) _ _ (refl, refl)
    (picked P (is_named l (codes "query") from colon) _ _ (refl, refl) tt))))

-- where a header stands
abbrev InLine : Line → Head → Type 0
InLine line h = (h.at ≡ line.from) × (line.from ≤ h.body) × (h.body ≤ line.to)

placed : (line : Line) (colon : ℕ) (o : Option Head) → line.from ≤ colon → colon < line.to → IfSome o (λ h. (h.at ≡ line.from) × (h.body ≡ colon + 1)) → IfSome o (InLine line)
placed line colon None low high h = tt
placed line colon (Some head) low high h = (h.0, omega (arith, low, h.1), omega (arith, high, h.1))

head_within : (l : Layout) (line : Line) → IfSome (head_of l line) (InLine line)
head_within l line = by (nat_lt colon line.to) refl where
  colon : ℕ
  colon = first_colon l line.from line.to

  by : (b : Bool) → nat_lt colon line.to ≡ b → IfSome (cond b (head_in l line.from colon) None) (InLine line)
  by true e = placed line colon (head_in l line.from colon) (colon_low line.from (slice_range l.tokens line.from line.to)) (ltb-true colon line.to e) (head_at l line.from colon)
  by false e = tt

in_line : (l : Layout) (line : Line) (h : Head) → head_of l line ≡ Some h → InLine line h
in_line l line h e = let P : Option Head → Type 0 = λ o. IfSome o (InLine line) in subst P e (head_within l line)

-- ---- headers of the lines that follow

heads_with : (l : Layout) (line : Line) (rest : List Line) (o : Option Head) → head_of l line ≡ o → heads_of l (line ∷ rest) ≡ option_to_list o ++ heads_of l rest
unfolding heads_of
heads_with l line rest o e = ap (λ x. option_to_list x ++ heads_of l rest) e

-- the lines that follow a place begin at it or after it
starts : (l : Layout) (rest : List Line) (f n : ℕ) → Follow f rest n → All (IsLineOver n) rest → All (λ r. f ≤ r.from) rest
starts l [] f n follow over = All-nil (λ (r : Line). f ≤ r.from)
starts l (line ∷ rest) f n follow over =
    let this = All-head (IsLineOver n) line rest over in
    let later = starts l rest line.to n follow.1 (All-tail (IsLineOver n) line rest over) in
    All-cons (λ (r : Line). f ≤ r.from) line rest (omega (arith, follow.0))
    (λ k d low. omega (arith, later k d low, follow.0, this.some))

-- the first header of these lines stands among them
next_within : (l : Layout) (rest : List Line) (f : ℕ) → Follow f rest (length l.tokens) → All (IsLineOver (length l.tokens)) rest → (f ≤ next_at l (heads_of l rest)) × (next_at l (heads_of l rest) ≤ length l.tokens)
unfolding heads_of
next_within l [] f follow over = (omega (arith, follow), omega arith)
next_within l (line ∷ rest) f follow over = by (head_of l line) refl (next_within l rest line.to follow.1 (All-tail (IsLineOver (length l.tokens)) line rest over)) where
  n : ℕ
  n = length l.tokens

  by : (o : Option Head) → head_of l line ≡ o → (line.to ≤ next_at l (heads_of l rest)) × (next_at l (heads_of l rest) ≤ n) → (f ≤ next_at l (heads_of l (line ∷ rest))) × (next_at l (heads_of l (line ∷ rest)) ≤ n)
  by None e later =
      let this = All-head (IsLineOver n) line rest over in
      let same : next_at l (heads_of l (line ∷ rest)) ≡ next_at l (heads_of l rest) = ap (next_at l) (heads_with l line rest None e) in
      (omega (arith, same, later.0, follow.0, this.some), omega (arith, same, later.1))
  by (Some h) e later =
      let this = All-head (IsLineOver n) line rest over in
      let same : next_at l (heads_of l (line ∷ rest)) ≡ h.at = ap (next_at l) (heads_with l line rest (Some h) e) in
      let at = in_line l line h e in
      (omega (arith, same, at.0, follow.0), omega (arith, same, at.0, this.some, this.inside))

-- no header of these lines stands before the first
none_sooner : (l : Layout) (rest : List Line) (f : ℕ) → Follow f rest (length l.tokens) → All (IsLineOver (length l.tokens)) rest → All (λ r. (o : Head) → head_of l r ≡ Some o → next_at l (heads_of l rest) ≤ r.from) rest
none_sooner l [] f follow over = All-nil (λ (r : Line). (o : Head) → head_of l r ≡ Some o → next_at l (heads_of l []) ≤ r.from)
none_sooner l (line ∷ rest) f follow over = by (head_of l line) refl (none_sooner l rest line.to follow.1 (All-tail (IsLineOver (length l.tokens)) line rest over)) where
  n : ℕ
  n = length l.tokens

  P : Line → Type 0
  P = λ r. (o : Head) → head_of l r ≡ Some o → next_at l (heads_of l (line ∷ rest)) ≤ r.from

  by : (o : Option Head) → head_of l line ≡ o → All (λ r. (o : Head) → head_of l r ≡ Some o → next_at l (heads_of l rest) ≤ r.from) rest → All P (line ∷ rest)
  by None e later =
      let same : next_at l (heads_of l (line ∷ rest)) ≡ next_at l (heads_of l rest) = ap (next_at l) (heads_with l line rest None e) in
      let this : P line = λ o is. absurd (let none : None ≡ Some o = sym e ∙ is in cc) in
      All-cons P line rest this (λ k d low o is. omega (arith, same, later k d low o is))
  by (Some h) e others =
      let over_this = All-head (IsLineOver n) line rest over in
      let later = starts l rest line.to n follow.1 (All-tail (IsLineOver n) line rest over) in
      let same : next_at l (heads_of l (line ∷ rest)) ≡ h.at = ap (next_at l) (heads_with l line rest (Some h) e) in
      let at = in_line l line h e in
      let this : P line = λ o is. omega (arith, same, at.0) in
      All-cons P line rest this (λ k d low o is. omega (arith, same, at.0, later k d low, over_this.some))

-- a token at or after the first header has a header that isn't before these lines
before_next : (l : Layout) (rest : List Line) (f k a : ℕ) → Follow f rest (length l.tokens) → All (IsLineOver (length l.tokens)) rest → a < f → k < length l.tokens → All (λ r. (o : Head) → head_of l r ≡ Some o → r.from ≤ k → r.from ≤ a) rest → k < next_at l (heads_of l rest)
unfolding heads_of
before_next l [] f k a follow over low high last = high
before_next l (line ∷ rest) f k a follow over low high last = by (head_of l line) refl (λ more. before_next l rest line.to k a follow.1 (All-tail (IsLineOver (length l.tokens)) line rest over) more high (All-tail (λ (r : Line). (o : Head) → head_of l r ≡ Some o → r.from ≤ k → r.from ≤ a) line rest last)) where
  n : ℕ
  n = length l.tokens

  P : Line → Type 0
  P = λ r. (o : Head) → head_of l r ≡ Some o → r.from ≤ k → r.from ≤ a

  by : (o : Option Head) → head_of l line ≡ o → (a < line.to → k < next_at l (heads_of l rest)) → k < next_at l (heads_of l (line ∷ rest))
  by None e found =
      let this = All-head (IsLineOver n) line rest over in
      let more : a < line.to = omega (arith, low, follow.0, this.some) in
      let later = found more in
      let same : next_at l (heads_of l (line ∷ rest)) ≡ next_at l (heads_of l rest) = ap (next_at l) (heads_with l line rest None e) in
      omega (arith, same, later)
  by (Some h) e found =
      let same : next_at l (heads_of l (line ∷ rest)) ≡ h.at = ap (next_at l) (heads_with l line rest (Some h) e) in
      let at = in_line l line h e in
      ⊎_elim
      (λ (less : k < line.from). omega (arith, less, same, at.0))
      (λ (more : line.from ≤ k). absurd (let le = All-head P line rest last h e more in omega (arith, le, low, follow.0)))
      (cases_lt k line.from)

all_right : {X : Type 0} (P : X → Type 0) (xs ys : List X) → All P (xs ++ ys) → All P ys
all_right P [] ys h = h
all_right P (x ∷ xs) ys h = all_right P xs ys (All-tail P x (xs ++ ys) h)

-- ---- the section of a header

-- which tokens the header of this line governs
governed : (l : Layout) (front rest : List Line) (line : Line) (head : Head) (k : ℕ) → front ++ line ∷ rest ≡ l.lines → All (λ r. r.from < line.from) front → IsLineOver (length l.tokens) line → Follow line.to rest (length l.tokens) → All (IsLineOver (length l.tokens)) rest → head_of l line ≡ Some head → k < length l.tokens → ((head.body ≤ k) × (k < next_at l (heads_of l rest))) ↔ Governs l head k
governed l front rest line head k all before this follow over e low =
    let at = in_line l line head e in
    let Q = λ (r : Line). (o : Head) → head_of l r ≡ Some o → r.from ≤ k → r.from ≤ head.at in
    let sooner = none_sooner l rest line.to follow over in (
      λ h.
          let fronts : All Q front = λ i d less o is high. omega (arith, before i d less, at.0) in
          let lines : Q line = λ o is high. omega (arith, at.0) in
          let rests : All Q rest = λ i d less o is high. absurd (omega (arith, sooner i d less o is, high, h.1)) in
          record { after = h.0; last = subst (All Q) all (All-append Q front (line ∷ rest) fronts (All-cons Q line rest lines rests)) },
      λ g.
          let later : All Q rest = All-tail Q line rest (all_right Q front (line ∷ rest) (subst (All Q) (sym all) g.last)) in
          let a : head.at < line.to = omega (arith, at.0, this.some) in
          (g.after, before_next l rest line.to k head.at follow over a low later),
    )

section_is : (l : Layout) (front rest : List Line) (line : Line) (head : Head) → front ++ line ∷ rest ≡ l.lines → All (λ r. r.from < line.from) front → IsLineOver (length l.tokens) line → Follow line.to rest (length l.tokens) → All (IsLineOver (length l.tokens)) rest → head_of l line ≡ Some head → IsSectionOf l head (section_at l head (next_at l (heads_of l rest)))
section_is l front rest line head all before this follow over e =
    let at = in_line l line head e in
    let to = next_at l (heads_of l rest) in
    let commas = same_kind head.kind kinds.Templates in
    let within = next_within l rest line.to follow over in
    let low : head.body ≤ to = omega (arith, at.2, within.0) in
    let sentences = sentences_are l commas head.body to low within.1 in
    record {
      kind = refl;
      name = refl;
      at = refl;
      to = to;
      inside = within.1;
      governed = λ k less. governed l front rest line head k all before this follow over e less;
      sentences = sentences;
      unended = unended_there l commas head.body to low within.1;
      once = λ k less g ends. let h = (governed l front rest line head k all before this follow over e less).1 g in one_holds l commas head.body to k _ sentences h.0 h.1 ends;
    }

with_one : (l : Layout) (line : Line) (rest : List Line) (o : Option Head) → head_of l line ≡ o → AreSectionsOf l (heads_of l rest) (sections_under l (heads_of l rest)) → ((head : Head) → head_of l line ≡ Some head → IsSectionOf l head (section_at l head (next_at l (heads_of l rest)))) → AreSectionsOf l (option_to_list o ++ heads_of l rest) (sections_under l (option_to_list o ++ heads_of l rest))
unfolding sections_under
with_one l line rest None e later one = later
with_one l line rest (Some head) e later one = (one head e, later)

all_are : (l : Layout) (front rest : List Line) (f : ℕ) → front ++ rest ≡ l.lines → All (λ r. r.from < f) front → Follow f rest (length l.tokens) → All (IsLineOver (length l.tokens)) rest → AreSectionsOf l (heads_of l rest) (sections_under l (heads_of l rest))
unfolding heads_of sections_under
all_are l front [] f all before follow over = tt
all_are l front (line ∷ rest) f all before follow over =
    let n = length l.tokens in
    let this = All-head (IsLineOver n) line rest over in
    let over_rest = All-tail (IsLineOver n) line rest over in
    let earlier : All (λ (r : Line). r.from < line.from) front = λ i d low. omega (arith, before i d low, follow.0) in
    let front_more : All (λ (r : Line). r.from < line.to) front = λ i d low. omega (arith, before i d low, follow.0, this.some) in
    let pushed = All-push (λ (r : Line). r.from < line.to) front line front_more this.some in
    let later = all_are l (front ++ line ∷ []) rest line.to (append_assoc front (line ∷ []) rest ∙ all) pushed follow.1 over_rest in
    subst (λ hs. AreSectionsOf l hs (sections_under l hs)) (sym (heads_with l line rest (head_of l line) refl))
    (with_one l line rest (head_of l line) refl later (λ head is. section_is l front rest line head all earlier this follow.1 over_rest is))

pub sections_are : (l : Layout) → IsLayout l → AreSectionsOf l (heads_of l l.lines) (all_sections l)
sections_are l h = all_are l [] l.lines 0 refl (All-nil (λ (r : Line). r.from < 0)) h.whole h.lines
