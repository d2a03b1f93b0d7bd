use Rattle.le_prooftext.specs.declared.word.NodeKind.TheVariants as kind
use Rattle.le_prooftext.specs.declared.word.Word.TheVariants as word
use Rattle.le_prooftext.specs.Lines.{atom_words}
use Rattle.le_prooftext.proofs.WrittenLines.{line_written}
use Rattle.le_prooftext.proofs.writing.push_absent.Goals as goal

pub returns : goal.returns
returns c =
    line_written c.push_atom.result (word.Kind kind.Absent) (atom_words c.args.atom.now) c.args.text.now c.push_word.new.text c.push_atom.new.text c.in_ok-push_word.ensures c.push_atom.ensures
