-- The sentence of an atom reads back as this atom.
use Rattle.std.proofs.Common.{◌≡◌, ℕ, ◌^◌, ◌<◌, Bool, true, not, List, [], ◌∷◌, ◌++◌, map, length, codes, decimal, slice_index_or, All, sym, refl, ap, ◌∙◌, subst, ⊎_elim, arith}
use Rattle.std.specs.Prelude.{pos}
use Rattle.std.specs.Fmt.{signed_decimal}
use Rattle.std.specs.List.{list_all}
use Rattle.std.proofs.lemmas.Bool.{cases_Bool, and_from}
use Rattle.std.proofs.lemmas.Int.{ints}
use Rattle.std.proofs.lemmas.List.Elements.{All-head, All-tail}
use Rattle.std.proofs.lemmas.List.Folds.{list_all-append}
use Rattle.unicode_ident.proofs.Computing.{unicode_ident}
use Rattle.le_layout.specs.Characters.{is_word_character, is_ascii_sign, is_further_sign, kind_of}
use Rattle.le_layout.specs.Pieces.{joins, goes_on}
use Rattle.le_layout.specs.Faults.{is_numeral, is_numerals, is_number_like, is_bad_number, is_bad_date}
use Rattle.le_layout.specs.declared.token.Token.{Token}
use Rattle.le_layout.specs.declared.layout.Layout.{Layout}
use Rattle.le_layout.specs.Layout.{IsTokenIn}
use Rattle.le_layout.specs.Spellings.{Spelling, spellings, IsWritten}
use Rattle.le_layout.specs.Words.{is_star}
use Rattle.le_layout.specs.Written.{IsWordText, IsQuotable}
use Rattle.le_layout.proofs.ScanLemmas.{written_tokens_lem}
use Rattle.le_layout.proofs.ValueLemmas.{number_word_text, date_word_text}
use Rattle.le_templates.specs.declared.part.Part.{Part}
use Rattle.le_templates.specs.declared.part.Part.TheVariants.{Word, Slot}
use Rattle.le_templates.specs.declared.part.Template.{Template}
use Rattle.le_terms.specs.Tree.{Tree, constant, number, date, variable, nil, cell}
use Rattle.le_terms.specs.Names.{HasNoRepeats}
use Rattle.le_terms.specs.Variables.{occurrences}
use Rattle.le_values.specs.Days.{day_text}
use Rattle.le_values.proofs.NumberLemmas.{written}
use Rattle.le_match.specs.Readings.{parts_at}
use Rattle.le_english.specs.Phrases.{open_sign, close_sign, comma_sign, bar_sign, is_plain_name, name_phrase, is_seen, variable_phrase, phrase_of, rest_of, phrases_of}
use Rattle.le_english.specs.Sentences.{IsPhrase, Fills}
use Rattle.le_english.specs.Saying.{AllOf, AllPhrases}
use Rattle.le_match.specs.Sayable.{HasTerms, IsTermToSay, AreTermsToSay}
use Rattle.le_english.specs.Atoms.{say_text, IsAtomToSay, printed, numbered, scope_of, variables_in, ReadsBackAs, ReadsBackAlone}
use Rattle.le_english.proofs.AsciiLemmas.{ascii-word}
use Rattle.le_english.proofs.ArgumentLemmas.{Fits, small-tree, term-tree, arguments-read}
use Rattle.le_english.proofs.BackLemmas.{reads-back}
use Rattle.le_english.proofs.DayLemmas.{day-back}
use Rattle.le_english.proofs.DeclaredLemmas.{one-of-each, words-at}
use Rattle.le_english.proofs.LineLemmas.{plain-words}
use Rattle.le_english.proofs.NameLemmas.{plain-is, scanned-is, name-plain, name-quoted}
use Rattle.le_english.proofs.ThingLemmas.{AllSmall}
use Rattle.le_english.proofs.TreeLemmas.{tree-phrase}
use Rattle.le_english.proofs.VariableLemmas.{Agree, agree-all, variable-new, variable-old, refl-front}
use Rattle.le_english.proofs.WordLemmas.{words-no_star}

-- ---- no asterisk

abbrev no_star : Spelling → Bool
no_star s = not (is_star s.kind)

name-star : (users : List Template) (name : List ℕ) → list_all no_star (name_phrase users name) ≡ true
name-star users name =
    ⊎_elim (λ h. let p = plain-is users name h in ap (list_all no_star) (name-plain users name h ∙ scanned-is users name p) ∙ words-no_star (spellings p.layout p.layout.tokens) (plain-words users name p).words)
    (λ h. ap (list_all no_star) (name-quoted users name h))
    (cases_Bool (is_plain_name users name))

variable-star : (seen : List ℕ) (v : ℕ) → list_all no_star (variable_phrase seen v) ≡ true
unfolding variable_phrase
variable-star seen v = refl

star-append : (xs ys : List Spelling) → list_all no_star xs ≡ true → list_all no_star ys ≡ true → list_all no_star (xs ++ ys) ≡ true
star-append xs ys h k = list_all-append no_star xs ys ∙ and_from _ _ h k

mutual
  phrase-star : (users : List Template) (names : List (List ℕ)) (seen : List ℕ) (tree : Tree) → list_all no_star (phrase_of users names seen tree) ≡ true
  phrase-star users names seen (constant n) = name-star users (slice_index_or names n [])
  phrase-star users names seen (number z) = refl
  phrase-star users names seen (date d) = refl
  phrase-star users names seen (variable v) = variable-star seen v
  phrase-star users names seen nil = refl
  phrase-star users names seen (cell head tail) = star-append (phrase_of users names seen head) (rest_of users names (seen ++ occurrences head) tail) (phrase-star users names seen head) (rest-star users names (seen ++ occurrences head) tail)

  rest-star : (users : List Template) (names : List (List ℕ)) (seen : List ℕ) (tree : Tree) → list_all no_star (rest_of users names seen tree) ≡ true
  rest-star users names seen (constant n) = star-append (name_phrase users (slice_index_or names n [])) (close_sign ∷ []) (name-star users (slice_index_or names n [])) refl
  rest-star users names seen (number z) = refl
  rest-star users names seen (date d) = refl
  rest-star users names seen (variable v) = star-append (variable_phrase seen v) (close_sign ∷ []) (variable-star seen v) refl
  rest-star users names seen nil = refl
  rest-star users names seen (cell head tail) = star-append (phrase_of users names seen head) (rest_of users names (seen ++ occurrences head) tail) (phrase-star users names seen head) (rest-star users names (seen ++ occurrences head) tail)

-- ---- tokens that a document can have

open-written : IsWritten open_sign
unfolding kind_of
open-written = record { sign = 91; only = refl; token = refl }

close-written : IsWritten close_sign
unfolding kind_of
close-written = record { sign = 93; only = refl; token = refl }

comma-written : IsWritten comma_sign
unfolding kind_of
comma-written = record { sign = 44; only = refl; token = refl }

bar-written : IsWritten bar_sign
unfolding kind_of
bar-written = record { sign = 124; only = refl; token = refl }

a-word : IsWordText (codes "a")
unfolding is_word_character unicode_ident is_ascii_sign is_further_sign goes_on joins is_number_like is_numerals is_numeral is_bad_number is_bad_date
a-word = ascii-word (codes "a") (omega arith, tt) refl refl refl

the-word : IsWordText (codes "the")
unfolding is_word_character unicode_ident is_ascii_sign is_further_sign goes_on joins is_number_like is_numerals is_numeral is_bad_number is_bad_date
the-word = ascii-word (codes "the") (omega arith, (omega arith, (omega arith, tt))) refl refl refl

thing-word : IsWordText (codes "thing")
unfolding is_word_character unicode_ident is_ascii_sign is_further_sign goes_on joins is_number_like is_numerals is_numeral is_bad_number is_bad_date
thing-word = ascii-word (codes "thing") (omega arith, (omega arith, (omega arith, (omega arith, (omega arith, tt))))) refl refl refl

decimal-word : (v : ℕ) → v < 2 ^ 32 → IsWordText (decimal v)
decimal-word v h = number_word_text (decimal v) (pos v) (written (pos v) (omega (arith, ints, h), omega (arith, ints, h)))

all-append : (xs ys : List Spelling) → AllOf xs → AllOf ys → AllOf (xs ++ ys)
all-append [] ys h k = k
all-append (x ∷ xs) ys h k = (h.0, all-append xs ys h.1 k)

tokens-written : (layout : Layout) (ts : List Token) → All (IsTokenIn layout.text) ts → AllOf (spellings layout ts)
tokens-written layout [] h = tt
tokens-written layout (t ∷ ts) h = ((All-head (IsTokenIn layout.text) t ts h).written, tokens-written layout ts (All-tail (IsTokenIn layout.text) t ts h))

name-written : (users : List Template) (name : List ℕ) → IsQuotable name → AllOf (name_phrase users name)
name-written users name q =
    ⊎_elim (λ h. let p = plain-is users name h in subst AllOf (sym (name-plain users name h ∙ scanned-is users name p)) (tokens-written p.layout p.layout.tokens (written_tokens_lem name p.layout p.scan)))
    (λ h. subst AllOf (sym (name-quoted users name h)) (q, tt))
    (cases_Bool (is_plain_name users name))

variable-written : (seen : List ℕ) (v : ℕ) → v < 2 ^ 32 → AllOf (variable_phrase seen v)
variable-written seen v h =
    ⊎_elim (λ k. subst AllOf (sym (variable-old seen v k)) (the-word, (thing-word, (decimal-word v h, tt))))
    (λ k. subst AllOf (sym (variable-new seen v k)) (a-word, (thing-word, (decimal-word v h, tt))))
    (cases_Bool (is_seen seen v))

mutual
  pub phrase-written : (users : List Template) (names : List (List ℕ)) (seen : List ℕ) (tree : Tree) → IsTermToSay names tree → AllOf (phrase_of users names seen tree)
  phrase-written users names seen (constant n) h = name-written users (slice_index_or names n []) h.1
  phrase-written users names seen (number z) h = (number_word_text (signed_decimal z) z (written z h), tt)
  phrase-written users names seen (date d) h = (date_word_text (day_text d) d (day-back d h), tt)
  phrase-written users names seen (variable v) h = variable-written seen v h
  phrase-written users names seen nil h = (open-written, (close-written, tt))
  phrase-written users names seen (cell head tail) h = (open-written, all-append (phrase_of users names seen head) (rest_of users names (seen ++ occurrences head) tail) (phrase-written users names seen head h.0) (rest-written users names (seen ++ occurrences head) tail h.1))

  rest-written : (users : List Template) (names : List (List ℕ)) (seen : List ℕ) (tree : Tree) → IsTermToSay names tree → AllOf (rest_of users names seen tree)
  rest-written users names seen (constant n) h = (bar-written, all-append (name_phrase users (slice_index_or names n [])) (close_sign ∷ []) (name-written users (slice_index_or names n []) h.1) (close-written, tt))
  rest-written users names seen (number z) h = (bar-written, (number_word_text (signed_decimal z) z (written z h), (close-written, tt)))
  rest-written users names seen (date d) h = (bar-written, (date_word_text (day_text d) d (day-back d h), (close-written, tt)))
  rest-written users names seen (variable v) h = (bar-written, all-append (variable_phrase seen v) (close_sign ∷ []) (variable-written seen v h) (close-written, tt))
  rest-written users names seen nil h = (close-written, tt)
  rest-written users names seen (cell head tail) h = (comma-written, all-append (phrase_of users names seen head) (rest_of users names (seen ++ occurrences head) tail) (phrase-written users names seen head h.0) (rest-written users names (seen ++ occurrences head) tail h.1))

-- ---- the phrases of arguments

term-phrase : (users : List Template) (names : List (List ℕ)) (seen ks : List ℕ) (tree : Tree) → HasNoRepeats names → AllSmall ks → Agree seen ks → IsTermToSay names tree → IsPhrase (phrase_of users names seen tree)
term-phrase users names seen ks tree distinct few agree h =
    let all = printed ks (occurrences tree) in
    let fits : Fits names (length all) seen ks all tree = record { distinct = distinct; few = few; agree = agree; room = omega arith; sayable = h; front = refl-front all } in
    record {
      form = tree-phrase users names (scope_of (length all) ks) (scope_of (length all) all) (phrase_of users names seen tree) (numbered all tree) (term-tree users names (length all) seen ks all tree fits);
      no_star = phrase-star users names seen tree;
    }

all-fill : (users : List Template) (names : List (List ℕ)) (seen ks : List ℕ) (parts : List Part) (trees : List Tree) → HasNoRepeats names → AllSmall ks → Agree seen ks → HasTerms parts trees → AreTermsToSay names trees → Fills parts (phrases_of users names seen trees)
all-fill users names seen ks [] [] distinct few agree h s = tt
all-fill users names seen ks [] (tree ∷ trees) distinct few agree h s = absurd h
all-fill users names seen ks (Word w ∷ parts) trees distinct few agree h s = all-fill users names seen ks parts trees distinct few agree h s
all-fill users names seen ks (Slot p ∷ parts) [] distinct few agree h s = absurd h
all-fill users names seen ks (Slot p ∷ parts) (tree ∷ trees) distinct few agree h s = (
  term-phrase users names seen ks tree distinct few agree s.0,
  all-fill users names (seen ++ occurrences tree) (printed ks (occurrences tree)) parts trees distinct (small-tree names ks tree few s.0) (agree-all seen ks (occurrences tree) agree) h s.1,
)

all-written : (users : List Template) (names : List (List ℕ)) (seen : List ℕ) (trees : List Tree) → AreTermsToSay names trees → AllPhrases (phrases_of users names seen trees)
all-written users names seen [] s = tt
all-written users names seen (tree ∷ trees) s = (phrase-written users names seen tree s.0, all-written users names (seen ++ occurrences tree) trees s.1)

pub atom-back : (users : List Template) (names : List (List ℕ)) (pred : ℕ) (trees : List Tree) → IsAtomToSay users names pred trees → ReadsBackAlone users names pred trees
atom-back users names pred trees a =
    let ks = variables_in trees in
    let phrases = phrases_of users names [] trees in
    reads-back users names (scope_of (length ks) []) pred phrases (map (numbered ks) trees) (scope_of (length ks) ks)
    (record {
      each = one-of-each users a.declared;
      low = a.low;
      used = a.used;
      words = words-at users a.declared pred a.low;
      fills = all-fill users names [] [] (parts_at users pred) trees a.distinct tt (λ u. refl) a.terms a.sayable;
      written = all-written users names [] trees a.sayable;
      reads = arguments-read users names (length ks) [] [] trees a.distinct tt (λ u. refl) a.sayable (omega arith);
    })

-- so does a text that is the sentence
pub text-back : (users : List Template) (names : List (List ℕ)) (pred : ℕ) (trees : List Tree) (text : List ℕ) → text ≡ say_text users names pred trees → IsAtomToSay users names pred trees → ReadsBackAs users names pred trees text
text-back users names pred trees text e a = subst (ReadsBackAs users names pred trees) (sym e) (atom-back users names pred trees a)
