-- The texts of tokens joined by one space, a token at a time.
use Rattle.std.proofs.Common.{◌≡◌, ℕ, ◌+◌, ◌<◌, ◌≤◌, List, [], ◌∷◌, ◌++◌, length, map, flat_map, slice_range, sym, ap, ◌∙◌, append_assoc}
use Rattle.std.proofs.lemmas.List.{append-nil}
use Rattle.le_layout.specs.declared.token.Token.{Token}
use Rattle.le_layout.specs.declared.layout.Layout.{Layout}
use Rattle.le_layout.specs.Layout.{no_token}
use Rattle.le_layout.specs.Words.{text_of, token_of, spaced}
use Rattle.le_layout.proofs.SpanLemmas.{slice_more, slice_none}

-- the texts of the tokens from one place up to another
abbrev pub texts : Layout → ℕ → ℕ → List (List ℕ)
texts l from to = map (text_of l) (slice_range l.tokens from to)

-- texts with a space before each
abbrev pub after : List (List ℕ) → List ℕ
after ws = flat_map (λ v. 32 ∷ v) ws

pub spaced_first : (l : Layout) (from to : ℕ) (text : List ℕ) → from < to → to ≤ length l.tokens → text ≡ text_of l (token_of l from) → text ++ after (texts l (from + 1) to) ≡ spaced (texts l from to)
spaced_first l from to text low high e =
    ap (λ t. t ++ after (texts l (from + 1) to)) e ∙ sym (ap (λ ts. spaced (map (text_of l) ts)) (slice_more l.tokens from to no_token low high))

pub spaced_more : (l : Layout) (at to : ℕ) (old mid new word all : List ℕ) → at < to → to ≤ length l.tokens → old ++ after (texts l at to) ≡ all → mid ≡ old ++ 32 ∷ [] → new ≡ mid ++ word → word ≡ text_of l (token_of l at) → new ++ after (texts l (at + 1) to) ≡ all
spaced_more l at to old mid new word all low high h m n w =
    ap (λ t. t ++ after (texts l (at + 1) to)) (n ∙ ap (λ t. t ++ word) m ∙ append_assoc old (32 ∷ []) word)
    ∙ append_assoc old (32 ∷ word) (after (texts l (at + 1) to))
    ∙ ap (λ t. old ++ 32 ∷ (t ++ after (texts l (at + 1) to))) w
    ∙ sym (ap (λ ts. old ++ after (map (text_of l) ts)) (slice_more l.tokens at to no_token low high))
    ∙ h

pub spaced_end : (l : Layout) (at to : ℕ) (text all : List ℕ) → to ≤ at → text ++ after (texts l at to) ≡ all → text ≡ all
spaced_end l at to text all h e = sym (append-nil text) ∙ sym (ap (λ ts. text ++ after (map (text_of l) ts)) (slice_none l.tokens at to h)) ∙ e

pub spaced_none : (l : Layout) (from to : ℕ) → to ≤ from → [] ≡ spaced (texts l from to)
spaced_none l from to h = sym (ap (λ ts. spaced (map (text_of l) ts)) (slice_none l.tokens from to h))
