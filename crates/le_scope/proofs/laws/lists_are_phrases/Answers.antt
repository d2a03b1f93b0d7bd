use Rattle.le_scope.proofs.ListForms.{form_tree, tree_form}
use Rattle.le_scope.proofs.laws.lists_are_phrases.Goals as goal

pub returns-clause-tree : goal.returns-clause-tree
returns-clause-tree c layout ts h = form_tree layout ts h

pub returns-clause-form : goal.returns-clause-form
returns-clause-form c layout p h k = tree_form layout p h k
