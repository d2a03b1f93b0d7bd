-- A sentence is plain or marked.
use Rattle.std.proofs.Common.{◌≡◌, ℕ, Bool, true, false, cond, List, [], Some, slice_get, sym, ap, ap₂, ◌∙◌}
use Rattle.std.proofs.lemmas.Bool.{cond-true, cond-false}
use Rattle.std.proofs.lemmas.Option.{get_or_from_slice_get}
use Rattle.le_layout.specs.Joined.{joined}
use Rattle.le_templates.specs.declared.part.Part.{Part}
use Rattle.le_templates.specs.declared.part.Template.{Template}
use Rattle.le_templates.specs.Table.{template, table_of}
use Rattle.le_terms.specs.Tree.{Tree}
use Rattle.le_match.specs.Readings.{parts_at}
use Rattle.le_english.specs.Phrases.{phrases_of}
use Rattle.le_english.specs.Sentences.{sentence, slot_lengths}
use Rattle.le_english.specs.Saying.{reads_alone, sentence_text}
use Rattle.le_english.specs.Atoms.{say_text}

pub parts-at : (users : List Template) (pred : ℕ) (t : Template) (parts : List Part) → slice_get (table_of users) pred ≡ Some t → parts ≡ t.parts → parts ≡ parts_at users pred
parts-at users pred t parts e f = f ∙ ap (λ (x : Template). x.parts) (sym (get_or_from_slice_get (table_of users) pred t (template []) e))

-- the sentence by whether its plain text reads alone
abbrev chosen : List Template → List (List ℕ) → List Tree → List Part → Bool → List ℕ
chosen users names trees parts alone = cond alone (joined (sentence false parts (phrases_of users names [] trees))) (joined (sentence true parts (phrases_of users names [] trees)))

by-parts : (users : List Template) (names : List (List ℕ)) (pred : ℕ) (trees args : List Tree) (parts : List Part) → parts ≡ parts_at users pred → args ≡ trees → chosen users names args parts (reads_alone users pred (slot_lengths parts (phrases_of users names [] args)) (joined (sentence false parts (phrases_of users names [] args)))) ≡ say_text users names pred trees
unfolding sentence_text
by-parts users names pred trees args parts e f = ap₂ (λ ps ts. chosen users names ts ps (reads_alone users pred (slot_lengths ps (phrases_of users names [] ts)) (joined (sentence false ps (phrases_of users names [] ts))))) e f

pub say-plain : (users : List Template) (names : List (List ℕ)) (pred : ℕ) (trees args : List Tree) (parts : List Part) (text : List ℕ) (alone : Bool) → parts ≡ parts_at users pred → args ≡ trees → text ≡ joined (sentence false parts (phrases_of users names [] args)) → alone ≡ reads_alone users pred (slot_lengths parts (phrases_of users names [] args)) text → alone ≡ true → text ≡ say_text users names pred trees
say-plain users names pred trees args parts text alone e f t a h =
    t
    ∙ sym (cond-true _ (joined (sentence false parts (phrases_of users names [] args))) (joined (sentence true parts (phrases_of users names [] args))) (ap (reads_alone users pred (slot_lengths parts (phrases_of users names [] args))) (sym t) ∙ sym a ∙ h))
    ∙ by-parts users names pred trees args parts e f

pub say-marked : (users : List Template) (names : List (List ℕ)) (pred : ℕ) (trees args : List Tree) (parts : List Part) (text marked : List ℕ) (alone : Bool) → parts ≡ parts_at users pred → args ≡ trees → text ≡ joined (sentence false parts (phrases_of users names [] args)) → marked ≡ joined (sentence true parts (phrases_of users names [] args)) → alone ≡ reads_alone users pred (slot_lengths parts (phrases_of users names [] args)) text → alone ≡ false → marked ≡ say_text users names pred trees
say-marked users names pred trees args parts text marked alone e f t m a h =
    m
    ∙ sym (cond-false _ (joined (sentence false parts (phrases_of users names [] args))) (joined (sentence true parts (phrases_of users names [] args))) (ap (reads_alone users pred (slot_lengths parts (phrases_of users names [] args))) (sym t) ∙ sym a ∙ h))
    ∙ by-parts users names pred trees args parts e f
