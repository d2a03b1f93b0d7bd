-- The phrase of a term by itself reads back.
use Rattle.std.proofs.Common.{◌≡◌, ℕ, List, [], ◌∷◌, map, length, refl, sym, ap, subst, ◌∙◌, arith}
use Rattle.le_layout.specs.Spellings.{Spelling}
use Rattle.le_layout.specs.Joined.{plain, spelling_in, AllWritten}
use Rattle.le_layout.proofs.JoinLemmas.{scans_back_lem}
use Rattle.le_templates.specs.declared.part.Template.{Template}
use Rattle.le_terms.specs.Tree.{Tree}
use Rattle.le_terms.specs.Names.{HasNoRepeats}
use Rattle.le_terms.specs.Variables.{occurrences}
use Rattle.le_english.specs.Phrases.{phrase_of, term_text}
use Rattle.le_english.specs.Saying.{AllOf}
use Rattle.le_match.specs.Sayable.{IsTermToSay}
use Rattle.le_english.specs.Atoms.{printed, numbered, scope_of, TermReadsBackAs, TermReadsBack}
use Rattle.le_english.proofs.ArgumentLemmas.{Fits, term-tree}
use Rattle.le_english.proofs.AtomLemmas.{phrase-written}
use Rattle.le_english.proofs.TreeLemmas.{tree-phrase, tree-reads}
use Rattle.le_english.proofs.VariableLemmas.{refl-front}

items-all : (ss : List Spelling) → map spelling_in (map plain ss) ≡ ss
items-all [] = refl
items-all (s ∷ ss) = ap (λ xs. s ∷ xs) (items-all ss)

written-all : (ss : List Spelling) → AllOf ss → AllWritten (map plain ss)
written-all [] h = tt
written-all (s ∷ ss) h = (h.0, written-all ss h.1)

pub term-back : (users : List Template) (names : List (List ℕ)) (tree : Tree) → HasNoRepeats names → IsTermToSay names tree → TermReadsBack users names tree
unfolding term_text
term-back users names tree distinct h =
    let ks = printed [] (occurrences tree) in
    let phrase = phrase_of users names [] tree in
    let fits : Fits names (length ks) [] [] ks tree = record { distinct = distinct; few = tt; agree = λ u. refl; room = omega arith; sayable = h; front = refl-front ks } in
    let reads = term-tree users names (length ks) [] [] ks tree fits in
    let back = scans_back_lem (map plain phrase) (written-all phrase (phrase-written users names [] tree h)) in
    let spelled = back.2 ∙ items-all phrase in (
      back.0,
      back.1,
      tree-phrase users names (scope_of (length ks) []) (scope_of (length ks) ks) phrase (numbered ks tree) reads back.0 back.0.tokens spelled,
      tree-reads users names (scope_of (length ks) []) (scope_of (length ks) ks) phrase (numbered ks tree) reads back.0 back.0.tokens spelled,
    )

-- so does a text that is the term's
pub term-text-back : (users : List Template) (names : List (List ℕ)) (tree : Tree) (text : List ℕ) → text ≡ term_text users names tree → HasNoRepeats names → IsTermToSay names tree → TermReadsBackAs users names tree text
term-text-back users names tree text e distinct h = subst (TermReadsBackAs users names tree) (sym e) (term-back users names tree distinct h)
