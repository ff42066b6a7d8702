use Rattle.std.proofs.Common.{◌∙◌, ap, Some, refl, sym, subst}
use Rattle.text_terms.specs.Bytes.{str_bytes}
use Rattle.type_nodes.specs.Nodes.{Node as plain}
use Rattle.type_nodes.specs.Links.{IsNoLink}
use Rattle.type_nodes.specs.Views.{node_of, numbers}
use Rattle.type_nodes.proofs.Walks.{read_at}
use Rattle.type_nodes.proofs.store.view_of.Goals as goal

pub returns-in-Var : goal.returns-in-Var
returns-in-Var c = read_at c.args.cells.now.list.items c.args.n.0 c.index.result.now c.requires.inside c.index.ensures ∙ ap (λ x. Some (node_of x)) c.in-Var.is

pub returns-in-Rigid : goal.returns-in-Rigid
returns-in-Rigid c = (read_at c.args.cells.now.list.items c.args.n.0 c.index.result.now c.requires.inside c.index.ensures ∙ ap (λ x. Some (node_of x)) c.in-Rigid.is, refl)

pub returns-in-Arrow : goal.returns-in-Arrow
returns-in-Arrow c = read_at c.args.cells.now.list.items c.args.n.0 c.index.result.now c.requires.inside c.index.ensures ∙ ap (λ x. Some (node_of x)) c.in-Arrow.is

pub returns-in-Tuple : goal.returns-in-Tuple
returns-in-Tuple c =
    read_at c.args.cells.now.list.items c.args.n.0 c.index.result.now c.requires.inside c.index.ensures ∙ ap (λ x. Some (node_of x)) c.in-Tuple.is
    ∙ ap (λ ms. Some (plain.Tuple (numbers ms))) (sym c.deref.ensures.value)

pub returns-in-Con : goal.returns-in-Con
returns-in-Con c =
    read_at c.args.cells.now.list.items c.args.n.0 c.index.result.now c.requires.inside c.index.ensures ∙ ap (λ x. Some (node_of x)) c.in-Con.is
    ∙ ap (λ ms. Some (plain.Con c.in-Con.origin.path.items (str_bytes c.in-Con.origin.name) (numbers ms))) (sym c.deref-in-Con.ensures.value)

pub unreachable-requires : goal.unreachable-requires
unreachable-requires c =
    subst (λ x. IsNoLink (node_of x)) c.in-Link.is
    (c.requires.end (node_of c.index.result.now) (read_at c.args.cells.now.list.items c.args.n.0 c.index.result.now c.requires.inside c.index.ensures))
