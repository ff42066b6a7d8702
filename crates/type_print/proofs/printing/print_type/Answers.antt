use Rattle.std.proofs.Common.{[]}
use Rattle.text_terms.specs.Bytes.{str_bytes}
use Rattle.type_nodes.specs.Views.{numbers}
use Rattle.type_print_model.specs.Variables.{variables_of}
use Rattle.type_print.specs.Shown.{shown}
use Rattle.type_print.specs.Meeting.{roots_of, AreNamed, met_of}
use Rattle.type_print.specs.Texts.{AreKnown}
use Rattle.type_print.proofs.Ranks.{all_right}
use Rattle.type_print.proofs.Named.{printed_so}
use Rattle.type_print.proofs.Levels.{printed_by}
use Rattle.type_print.proofs.Inside.{printed_in}
use Rattle.type_print.proofs.printing.print_type.Goals as goal

pub returns-clause-text : goal.returns-clause-text
returns-clause-text c =
    let nodes = c.args.store.now.nodes in
    let weak = roots_of nodes (numbers c.args.weak.now) in
    let t = shown nodes c.args.n.0 in
    let named : AreNamed nodes weak (variables_of t) (met_of c.meet.new.self) = c.in_ok-meet.ensures weak [] c.in_ok-variables.ensures in
    let known : AreKnown nodes c.args.env.now c.in_ok-text.field-0-1.items = c.in_ok-text.ensures.known (rw c.new-2.ensures.items tt) in
    printed_so nodes c.args.env.now weak (variables_of t) c.meet.new.self c.new-2.result.items c.in_ok-text.field-0-1.items t (str_bytes c.in_ok-text.text) named (all_right [] (variables_of t)) known c.in_ok-text.ensures.text

pub returns-clause-defined : goal.returns-clause-defined
returns-clause-defined c =
    let nodes = c.args.store.now.nodes in
    let weak = roots_of nodes (numbers c.args.weak.now) in
    let t = shown nodes c.args.n.0 in
    printed_by nodes c.args.env.now weak (variables_of t) t (str_bytes c.in_ok-text.text) (returns-clause-text c)

pub returns-clause-inside : goal.returns-clause-inside
returns-clause-inside c =
    let nodes = c.args.store.now.nodes in
    let weak = roots_of nodes (numbers c.args.weak.now) in
    let t = shown nodes c.args.n.0 in
    let named : AreNamed nodes weak (variables_of t) (met_of c.meet.new.self) = c.in_ok-meet.ensures weak [] c.in_ok-variables.ensures in
    let known : AreKnown nodes c.args.env.now c.in_ok-text.field-0-1.items = c.in_ok-text.ensures.known (rw c.new-2.ensures.items tt) in
    printed_in nodes c.args.env.now weak (variables_of t) c.meet.new.self c.new-2.result.items c.in_ok-text.field-0-1.items c.args.n.0 (str_bytes c.in_ok-text.text) named (all_right [] (variables_of t)) known c.in_ok-text.ensures.text
