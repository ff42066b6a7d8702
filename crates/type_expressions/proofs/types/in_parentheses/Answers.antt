use Rattle.type_expressions.proofs.Untyped.{untyped_same, untyped_then, store_untyped, faults_untyped, ok_any}
use Rattle.std.proofs.lemmas.Result.{IfOk-weaker}
use Rattle.type_expressions.proofs.Answering.{if_any}
use Rattle.type_expressions.proofs.Carrying.{empty_end, single_end, several_end}
use Rattle.syntax_tree.specs.View.{place_of}
use Rattle.syntax_tree.specs.declared.tree.Node.{out-Node}
use Rattle.type_expressions.proofs.Settling.{empty_settles, single_settles, several_ends}
use Rattle.type_expressions.proofs.Denoting.{empty_denotes, single_denotes, several_unknown}
use Rattle.type_expressions.proofs.types.in_parentheses.Goals as goal

pub returns-in-empty-clause-carries : goal.returns-in-empty-clause-carries
returns-in-empty-clause-carries c =
    IfOk-weaker c.unresolved.result _ _ (λ m any item.
    empty_end c.args.at.now c.unresolved.new.at (place_of (out-Node c.args.node.now).span) m.0 c.args.types.now c.in-empty.len_below (any item) c.unresolved.ensures.rest) c.unresolved.ensures.any

pub returns-in-len1-clause-carries : goal.returns-in-len1-clause-carries
returns-in-len1-clause-carries c = λ item. single_end c.args.at.now (place_of (out-Node c.args.node.now).span) c.args.types.now (record { 0 = 0 }) c.in-len1.len_at_least c.in-len1.len_below

pub returns-in_ok-arity-in_default-clause-carries : goal.returns-in_ok-arity-in_default-clause-carries
returns-in_ok-arity-in_default-clause-carries c =
    IfOk-weaker c.unresolved-in_default.result _ _ (λ m any item.
    several_end c.args.at.now c.arity.new.self c.unresolved-in_default.new.at m.0 (out-Node c.args.node.now).span c.args.types.now c.in_ok-arity-in_default.field-0 c.in_default.len_at_least c.in_ok-arity-in_default.ensures.verdict c.arity.ensures.rest (any item) c.unresolved-in_default.ensures.rest)
    c.unresolved-in_default.ensures.any

pub returns-in-empty-clause-settles : goal.returns-in-empty-clause-settles
returns-in-empty-clause-settles c = if_any c.unresolved.result _ (λ m names over. empty_settles c.args.at.now c.unresolved.new.at names (place_of (out-Node c.args.node.now).span) c.args.types.now c.in-empty.len_below)

pub returns-in-len1-clause-settles : goal.returns-in-len1-clause-settles
returns-in-len1-clause-settles c = λ names over. single_settles c.args.at.now names (place_of (out-Node c.args.node.now).span) c.args.types.now c.in-len1.len_at_least c.in-len1.len_below

pub returns-in_ok-arity-in_default-clause-settles : goal.returns-in_ok-arity-in_default-clause-settles
returns-in_ok-arity-in_default-clause-settles c =
    if_any c.unresolved-in_default.result _ (λ m names over.
    several_ends c.args.at.now c.arity.new.self c.unresolved-in_default.new.at names (out-Node c.args.node.now).span c.args.types.now c.in_ok-arity-in_default.field-0 c.in_default.len_at_least c.in_ok-arity-in_default.ensures.verdict c.unresolved-in_default.ensures.silent)

pub returns-in-empty-clause-means : goal.returns-in-empty-clause-means
returns-in-empty-clause-means c = if_any c.unresolved.result _ (λ m names ps over nodes. empty_denotes c.args.at.now c.unresolved.new.at names ps (place_of (out-Node c.args.node.now).span) c.args.types.now m.0 c.in-empty.len_below)

pub returns-in-len1-clause-means : goal.returns-in-len1-clause-means
returns-in-len1-clause-means c = λ names ps over nodes. single_denotes c.args.at.now names ps (place_of (out-Node c.args.node.now).span) c.args.types.now (record { 0 = 0 }) c.in-len1.len_at_least c.in-len1.len_below

pub returns-in_ok-arity-in_default-clause-means : goal.returns-in_ok-arity-in_default-clause-means
returns-in_ok-arity-in_default-clause-means c =
    IfOk-weaker c.unresolved-in_default.result _ _ (λ m unknown names ps over nodes.
    several_unknown c.args.at.now c.arity.new.self c.unresolved-in_default.new.at names ps (out-Node c.args.node.now).span c.args.types.now c.in_ok-arity-in_default.field-0 m.0 c.in_default.len_at_least c.in_ok-arity-in_default.ensures.verdict c.arity.ensures.rest (unknown names over))
    c.unresolved-in_default.ensures.unknown

pub returns-in-empty-clause-untyped : goal.returns-in-empty-clause-untyped
returns-in-empty-clause-untyped c = ok_any c.unresolved.result _ (store_untyped c.args.at.now c.unresolved.new.at c.unresolved.ensures.rest)

pub returns-in-len1-clause-untyped : goal.returns-in-len1-clause-untyped
returns-in-len1-clause-untyped c = untyped_same c.args.at.now

pub returns-in_ok-arity-in_default-clause-untyped : goal.returns-in_ok-arity-in_default-clause-untyped
returns-in_ok-arity-in_default-clause-untyped c = ok_any c.unresolved-in_default.result _ (untyped_then (faults_untyped c.args.at.now c.arity.new.self c.arity.ensures.rest) (store_untyped c.arity.new.self c.unresolved-in_default.new.at c.unresolved-in_default.ensures.rest))
