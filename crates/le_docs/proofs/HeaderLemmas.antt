-- One step of each walk over the tokens and lines of headers.
use Rattle.std.proofs.Common.{◌≡◌, ℕ, ◌+◌, ◌<◌, ◌≤◌, ◌&&◌, Bool, cond, List, [], ◌∷◌, ◌++◌, length, get_or, drop, Option, Some, IfSome, refl, ap, ◌∙◌, subst, arith}
use Rattle.std.specs.Option.{option_to_list}
use Rattle.std.specs.List.{list_all}
use Rattle.std.proofs.lemmas.List.{drop_more}
use Rattle.le_layout.specs.declared.token.Token.{Token}
use Rattle.le_layout.specs.declared.token.Line.{Line}
use Rattle.le_layout.specs.declared.layout.Layout.{Layout}
use Rattle.le_layout.specs.Layout.{no_token, IsLineOver}
use Rattle.le_docs.specs.Bounds.{IsHeadOver}
use Rattle.le_layout.specs.declared.fault.Fault.{Fault}
use Rattle.le_docs.specs.declared.headers.Head.{Head}
use Rattle.le_layout.specs.Words.{is_word, is_colon}
use Rattle.le_docs.specs.Faults.{sooner, least_from}
use Rattle.le_docs.specs.Headers.{colon_from, first_colon, all_words, IsHeadIn, head_of, heads_of, line_faults, lines_faults}
use Rattle.le_layout.proofs.SpanLemmas.{slice_more}

pub all_words_step : (l : Layout) (k to : ℕ) (b : Bool) → k < to → to ≤ length l.tokens → is_word (get_or l.tokens k no_token).kind ≡ b → all_words l k to ≡ (b && all_words l (k + 1) to)
all_words_step l k to b low high e =
    ap (list_all (λ (t : Token). is_word t.kind)) (slice_more l.tokens k to no_token low high) ∙ ap (λ w. w && all_words l (k + 1) to) e

pub colon_step : (l : Layout) (k to : ℕ) (b : Bool) → k < to → to ≤ length l.tokens → is_colon (get_or l.tokens k no_token).kind ≡ b → first_colon l k to ≡ cond b k (first_colon l (k + 1) to)
colon_step l k to b low high e =
    ap (colon_from k) (slice_more l.tokens k to no_token low high) ∙ ap (λ w. cond w k (first_colon l (k + 1) to)) e

abbrev pub no_line : Line
no_line = record { number = 0; indent = 0; from = 0; to = 0 }

pub heads_step : (l : Layout) (i : ℕ) → i < length l.lines → heads_of l (drop i l.lines) ≡ option_to_list (head_of l (get_or l.lines i no_line)) ++ heads_of l (drop (i + 1) l.lines)
unfolding heads_of
heads_step l i low = ap (heads_of l) (drop_more l.lines i no_line low)

pub heads_end : (l : Layout) (lines : List Line) → lines ≡ [] → heads_of l lines ≡ []
unfolding heads_of
heads_end l lines e = ap (heads_of l) e

pub least_append : (least : Option Fault) (xs ys : List Fault) → least_from least (xs ++ ys) ≡ least_from (least_from least xs) ys
least_append least [] ys = refl
least_append least (x ∷ xs) ys = least_append (sooner least x) xs ys

pub lines_step : (l : Layout) (i : ℕ) (least : Option Fault) → i < length l.lines → least_from least (lines_faults l (drop i l.lines)) ≡ least_from (least_from least (line_faults l (get_or l.lines i no_line) (head_of l (get_or l.lines i no_line)))) (lines_faults l (drop (i + 1) l.lines))
unfolding lines_faults
lines_step l i least low =
    ap (λ xs. least_from least (lines_faults l xs)) (drop_more l.lines i no_line low)
    ∙ least_append least (line_faults l (get_or l.lines i no_line) (head_of l (get_or l.lines i no_line))) (lines_faults l (drop (i + 1) l.lines))

pub lines_end : (l : Layout) (least : Option Fault) (lines : List Line) → lines ≡ [] → least_from least (lines_faults l lines) ≡ least
unfolding lines_faults
lines_end l least lines e = ap (λ xs. least_from least (lines_faults l xs)) e

-- what was found, and a header that follows it or none
pub pushed : (xs all : List Head) (o : Option Head) (zs rest : List Head) → zs ≡ xs ++ option_to_list o → xs ++ (option_to_list o ++ rest) ≡ all → zs ++ rest ≡ all
pushed xs all o zs rest e h = ap (λ v. v ++ rest) e ∙ assoc xs ∙ h
  where
    assoc : (vs : List Head) → (vs ++ option_to_list o) ++ rest ≡ vs ++ (option_to_list o ++ rest)
    assoc [] = refl
    assoc (v ∷ vs) = ap (λ ws. v ∷ ws) (assoc vs)

-- the header of a line lies among the tokens
pub head_over : (count : ℕ) (line : Line) (o : Option Head) (h : Head) → IsLineOver count line → IfSome o (IsHeadIn line) → o ≡ Some h → IsHeadOver count h
head_over count line o h over within e =
    let P : Option Head → Type 0 = λ x. IfSome x (IsHeadIn line) in
    let i : IsHeadIn line h = subst P e within in
    let to = over.inside in
    record { at = omega (arith, i.begins, over.some, over.inside); name = omega (arith, i.name) }
