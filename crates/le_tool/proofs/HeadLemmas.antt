-- The sections of a layout lie among its tokens, and the names of scenarios and queries are names.
use Rattle.std.proofs.Common.{◌≡◌, ◌⊎◌, inl, inr, ℕ, ◌+◌, ◌-◌, ◌<◌, ◌≤◌, ◌||◌, nat_lt, nat_le, Bool, true, false, cond, List, [], ◌∷◌, ◌++◌, length, codes, Option, None, Some, IfSome, refl, sym, ap, subst, ◌∙◌, true≢false, arith}
use Rattle.std.specs.Option.{option_to_list}
use Rattle.std.specs.List.{AllByRecursion}
use Rattle.std.proofs.lemmas.Bool.{and_parts, ltb-true, leb-true}
use Rattle.std.proofs.lemmas.List.Elements.{recursion_from_All, All-from_recursion}
use Rattle.le_layout.specs.declared.span.Span.{Span}
use Rattle.le_layout.specs.declared.token.Token.{Token}
use Rattle.le_layout.specs.declared.token.Line.{Line}
use Rattle.le_layout.specs.declared.layout.Layout.{Layout}
use Rattle.le_layout.specs.Layout.{IsLayout, IsLineOver, IsTokenIn}
use Rattle.le_layout.specs.Words.{is_colon, has_word}
use Rattle.le_docs.specs.declared.doc.Section.{Section}
use Rattle.le_docs.specs.declared.doc.SectionKind.{SectionKind}
use Rattle.le_docs.specs.declared.doc.SectionKind.TheVariants as kinds
use Rattle.le_docs.specs.declared.headers.Head.{Head}
use Rattle.le_docs.specs.Bounds.{IsSentenceOver, IsSectionOver}
use Rattle.le_docs.specs.Kinds.{same_kind}
use Rattle.le_docs.specs.Headers.{colon_from, first_colon, all_words, is_target, is_templates, is_knowledge, is_named, head_as, head_in, head_of, heads_of}
use Rattle.le_docs.specs.Rule.{ends_at, AreSentences, IsSectionOf, AreSectionsOf}
use Rattle.le_docs.specs.Sections.{name_of, all_sections}
use Rattle.le_docs.proofs.GovernLemmas.{sections_are}
use Rattle.le_bundle.specs.Written.{IsName}
use Rattle.le_tool.proofs.NameLemmas.{span_name}

-- a section of this kind is asked for by its name
abbrev pub is_asked : SectionKind → Bool
is_asked kind = same_kind kind kinds.Scenario || same_kind kind kinds.Query

-- ---- headers

colon_low : (at : ℕ) (ts : List Token) → at ≤ colon_from at ts
colon_low at [] = omega arith
colon_low at (t ∷ ts) = by (is_colon t.kind) (colon_low (at + 1) ts)
  where
    by : (b : Bool) → at + 1 ≤ colon_from (at + 1) ts → at ≤ cond b at (colon_from (at + 1) ts)
    by true later = omega arith
    by false later = omega (arith, later)

-- a header that begins here, and its name
abbrev BeginsAt : Layout → ℕ → Head → Type 0
BeginsAt layout from h = (h.at ≡ from) × (is_asked h.kind ≡ true → IsName (name_of layout h.name))

picked : (P : Head → Type 0) (b : Bool) (h : Head) (o : Option Head) → (b ≡ true → P h) → IfSome o P → IfSome (cond b (Some h) o) P
picked P true h o this other = this refl
picked P false h o this other = other

named_is : (layout : Layout) (word : List ℕ) (from colon : ℕ) → AllByRecursion (IsTokenIn layout.text) layout.tokens → colon < length layout.tokens → is_named layout word from colon ≡ true → IsName (name_of layout (record { from = from + 1; to = colon - 1 }))
unfolding is_named
named_is layout word from colon all inside test =
    let long = and_parts (nat_le 3 (colon - from)) _ test in
    let short = and_parts (nat_le (colon - from) 14) _ long.1 in
    let first = and_parts (has_word layout from word) _ short.1 in
    let last = and_parts (has_word layout (colon - 1) (codes "is")) (all_words layout (from + 1) (colon - 1)) first.1 in
    let some : 3 ≤ colon - from = leb-true 3 (colon - from) long.0 in
    span_name layout (record { from = from + 1; to = colon - 1 }) all (omega (arith, some)) (omega (arith, inside)) last.1

head_begins : (layout : Layout) (from colon : ℕ) → AllByRecursion (IsTokenIn layout.text) layout.tokens → colon < length layout.tokens → IfSome (head_in layout from colon) (BeginsAt layout from)
unfolding head_in
head_begins layout from colon all inside =
    let P : Head → Type 0 = BeginsAt layout from in
    picked P (is_target layout from colon) (head_as kinds.Target from colon from from) _ (λ e. (refl, λ asked. absurd (true≢false (sym asked))))
    (picked P (is_templates layout from colon) (head_as kinds.Templates from colon from from) _ (λ e. (refl, λ asked. absurd (true≢false (sym asked))))
    (picked P (is_knowledge layout from colon) (head_as kinds.Knowledge from colon (from + 3) (colon - 1)) _ (λ e. (refl, λ asked. absurd (true≢false (sym asked))))
    (picked P (is_named layout (codes "scenario") from colon) (head_as kinds.Scenario from colon (from + 1) (colon - 1)) _ (λ e. (refl, λ asked. named_is layout (codes "scenario") from colon all inside e))
    (picked P (is_named layout (codes "query") from colon) (head_as kinds.Query from colon (from + 1) (colon - 1)) None (λ e. (refl, λ asked. named_is layout (codes "query") from colon all inside e)) tt))))

-- a header stands among the tokens, and has a name
record HeadFits (layout : Layout) (h : Head) : Type 0 where
  at : h.at < length layout.tokens
  name : is_asked h.kind ≡ true → IsName (name_of layout h.name)

head_fits : (layout : Layout) (line : Line) → AllByRecursion (IsTokenIn layout.text) layout.tokens → IsLineOver (length layout.tokens) line → IfSome (head_of layout line) (HeadFits layout)
head_fits layout line all over = by (nat_lt colon line.to) refl
  where
    colon : ℕ
    colon = first_colon layout line.from line.to

    placed : (o : Option Head) → line.from < length layout.tokens → IfSome o (BeginsAt layout line.from) → IfSome o (HeadFits layout)
    placed None low h = tt
    placed (Some head) low h = record { at = subst (λ n. n < length layout.tokens) (sym h.0) low; name = h.1 }

    by : (b : Bool) → nat_lt colon line.to ≡ b → IfSome (cond b (head_in layout line.from colon) None) (HeadFits layout)
    by true e =
        let inside : colon < length layout.tokens = omega (arith, ltb-true colon line.to e, over.inside) in
        placed (head_in layout line.from colon) (omega (arith, over.some, over.inside)) (head_begins layout line.from colon all inside)
    by false e = tt

heads_fit : (layout : Layout) → AllByRecursion (IsTokenIn layout.text) layout.tokens → (lines : List Line) → AllByRecursion (IsLineOver (length layout.tokens)) lines → AllByRecursion (HeadFits layout) (heads_of layout lines)
unfolding heads_of
heads_fit layout all [] over = tt
heads_fit layout all (line ∷ lines) over = by (head_of layout line) (head_fits layout line all over.0) (heads_fit layout all lines over.1)
  where
    by : (o : Option Head) → IfSome o (HeadFits layout) → AllByRecursion (HeadFits layout) (heads_of layout lines) → AllByRecursion (HeadFits layout) (option_to_list o ++ heads_of layout lines)
    by None h rest = rest
    by (Some head) h rest = (h, rest)

-- ---- sections

sentences_over : (layout : Layout) (commas : Bool) (from to : ℕ) (spans : List Span) → to ≤ length layout.tokens → AreSentences layout commas from to spans → AllByRecursion (IsSentenceOver (length layout.tokens)) spans
sentences_over layout commas from to [] inside are = tt
sentences_over layout commas from to (s ∷ ss) inside are = by are.4 (λ rest. sentences_over layout commas s.to to ss inside rest)
  where
    first : s.to ≤ to → IsSentenceOver (length layout.tokens) s
    first less = record { some = are.2; inside = omega (arith, less, inside) }

    by : ((s.to ≡ to) × (ss ≡ [])) ⊎ ((s.to < to) × (ends_at layout commas s.to ≡ true) × AreSentences layout commas s.to to ss) → (AreSentences layout commas s.to to ss → AllByRecursion (IsSentenceOver (length layout.tokens)) ss) → IsSentenceOver (length layout.tokens) s × AllByRecursion (IsSentenceOver (length layout.tokens)) ss
    by (inl (end, none)) more = (first (omega (arith, end)), subst (AllByRecursion (IsSentenceOver (length layout.tokens))) (sym none) tt)
    by (inr (less, ends, rest)) more = (first (omega (arith, less)), more rest)

-- a section lies among the tokens, and has a name where it is asked for by it
pub record SectionFits (layout : Layout) (s : Section) : Type 0 where
  pub over : IsSectionOver (length layout.tokens) s
  pub name : is_asked s.kind ≡ true → IsName s.name

section_fits : (layout : Layout) (head : Head) (s : Section) → HeadFits layout head → IsSectionOf layout head s → SectionFits layout s
section_fits layout head s h is = record {
  over = record {
    at = subst (λ n. n < length layout.tokens) (sym is.at) h.at;
    sentences = All-from_recursion (IsSentenceOver (length layout.tokens)) s.sentences (sentences_over layout (same_kind head.kind kinds.Templates) head.body is.to s.sentences is.inside is.sentences);
  };
  name = λ asked. subst IsName (sym is.name) (h.name (ap is_asked (sym is.kind) ∙ asked));
}

each_fits : (layout : Layout) (heads : List Head) (sections : List Section) → AllByRecursion (HeadFits layout) heads → AreSectionsOf layout heads sections → AllByRecursion (SectionFits layout) sections
each_fits layout [] [] h are = tt
each_fits layout [] (s ∷ sections) h are = absurd are
each_fits layout (head ∷ heads) [] h are = absurd are
each_fits layout (head ∷ heads) (s ∷ sections) h are = (section_fits layout head s h.0 are.0, each_fits layout heads sections h.1 are.1)

-- the sections of a layout
pub sections_fit : (layout : Layout) → IsLayout layout → AllByRecursion (SectionFits layout) (all_sections layout)
sections_fit layout valid =
    each_fits layout (heads_of layout layout.lines) (all_sections layout)
    (heads_fit layout (recursion_from_All (IsTokenIn layout.text) layout.tokens valid.tokens) layout.lines (recursion_from_All (IsLineOver (length layout.tokens)) layout.lines valid.lines))
    (sections_are layout valid)
