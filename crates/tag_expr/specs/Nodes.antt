-- What the nodes of a tree say.
use Rattle.tag_expr.specs.declared.node.Node.{Node, Tag, AnyTag, NoTag, Negation', Conjunction', Disjunction'}
use Rattle.tag_expr.specs.Expressions.{Expression, tag, any_tag, no_tag, negation, conjunction, disjunction}

-- the expression that the nodes from this one down are
abbrev pub expression_of : Node → Expression
expression_of (Tag t) = tag t
expression_of AnyTag = any_tag
expression_of NoTag = no_tag
expression_of (Negation' p e) = negation (expression_of e)
expression_of (Conjunction' p d q e) = conjunction (expression_of d) (expression_of e)
expression_of (Disjunction' p d q e) = disjunction (expression_of d) (expression_of e)
