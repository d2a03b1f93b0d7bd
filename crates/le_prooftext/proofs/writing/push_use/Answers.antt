use Rattle.std.proofs.Common.{◌∷◌, []}
use Rattle.le_prooftext.specs.declared.word.NodeKind.TheVariants as kind
use Rattle.le_prooftext.specs.declared.word.Word.TheVariants as word
use Rattle.le_prooftext.specs.Lines.{atom_words}
use Rattle.le_prooftext.proofs.WrittenLines.{line_written, onto}
use Rattle.le_prooftext.proofs.writing.push_use.Goals as goal

pub returns : goal.returns
returns c =
    let words = atom_words c.args.atom.now in
    let new = c.push_atom.new.text in
    line_written c.push_atom.result (word.Kind kind.Use) (word.Count c.args.clause ∷ word.Count c.args.count ∷ words) c.args.text.now c.push_word.new.text new c.in_ok-push_word.ensures
    (onto c.push_atom.result (word.Count c.args.clause ∷ []) (word.Count c.args.count ∷ words) c.push_word.new.text c.push_spaced.new.text new c.in_ok-push_spaced.ensures
    (onto c.push_atom.result (word.Count c.args.count ∷ []) words c.push_spaced.new.text c.push_spaced-2.new.text new c.in_ok-push_spaced-2.ensures c.push_atom.ensures))
