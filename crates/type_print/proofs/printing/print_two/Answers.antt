use Rattle.std.proofs.Common.{[], ◌++◌}
use Rattle.text_terms.specs.Bytes.{str_bytes}
use Rattle.type_print_model.specs.Variables.{variables_of}
use Rattle.type_print.specs.Shown.{shown}
use Rattle.type_print.specs.Meeting.{AreNamed, met_of}
use Rattle.type_print.specs.Texts.{AreKnown}
use Rattle.type_print.proofs.Ranks.{all_left, all_right}
use Rattle.type_print.proofs.Named.{printed_so}
use Rattle.type_print.proofs.Levels.{printed_by}
use Rattle.type_print.proofs.Inside.{printed_two_in}
use Rattle.type_print.proofs.printing.print_two.Goals as goal

pub returns-clause-first : goal.returns-clause-first
returns-clause-first c =
    let nodes = c.args.store.now.nodes in
    let t = shown nodes c.args.first.0 in
    let vs = variables_of t in
    let us = variables_of (shown nodes c.args.second.0) in
    let named : AreNamed nodes [] (vs ++ us) (met_of c.meet-2.new.self) = c.in_ok-meet-2.ensures [] vs (c.in_ok-meet.ensures [] [] c.in_ok-variables.ensures) in
    let known : AreKnown nodes c.args.env.now c.in_ok-left.known.items = c.in_ok-left.ensures.known (rw c.new-2.ensures.items tt) in
    printed_so nodes c.args.env.now [] (vs ++ us) c.meet-2.new.self c.new-2.result.items c.in_ok-left.known.items t (str_bytes c.in_ok-left.left) named (all_left vs us vs (all_right [] vs)) known c.in_ok-left.ensures.text

pub returns-clause-second : goal.returns-clause-second
returns-clause-second c =
    let nodes = c.args.store.now.nodes in
    let vs = variables_of (shown nodes c.args.first.0) in
    let t = shown nodes c.args.second.0 in
    let us = variables_of t in
    let named : AreNamed nodes [] (vs ++ us) (met_of c.meet-2.new.self) = c.in_ok-meet-2.ensures [] vs (c.in_ok-meet.ensures [] [] c.in_ok-variables.ensures) in
    let known : AreKnown nodes c.args.env.now c.in_ok-right.field-0-1.items = c.in_ok-right.ensures.known (c.in_ok-left.ensures.known (rw c.new-2.ensures.items tt)) in
    printed_so nodes c.args.env.now [] (vs ++ us) c.meet-2.new.self c.in_ok-left.known.items c.in_ok-right.field-0-1.items t (str_bytes c.in_ok-right.right) named (all_right vs us) known c.in_ok-right.ensures.text

pub returns-clause-defined : goal.returns-clause-defined
returns-clause-defined c =
    let nodes = c.args.store.now.nodes in
    let t = shown nodes c.args.first.0 in
    let u = shown nodes c.args.second.0 in
    let all = variables_of t ++ variables_of u in (
      printed_by nodes c.args.env.now [] all t (str_bytes c.in_ok-left.left) (returns-clause-first c),
      printed_by nodes c.args.env.now [] all u (str_bytes c.in_ok-right.right) (returns-clause-second c),
    )

pub returns-clause-inside : goal.returns-clause-inside
returns-clause-inside c =
    let nodes = c.args.store.now.nodes in
    let vs = variables_of (shown nodes c.args.first.0) in
    let us = variables_of (shown nodes c.args.second.0) in
    let named : AreNamed nodes [] (vs ++ us) (met_of c.meet-2.new.self) = c.in_ok-meet-2.ensures [] vs (c.in_ok-meet.ensures [] [] c.in_ok-variables.ensures) in
    let known : AreKnown nodes c.args.env.now c.in_ok-right.field-0-1.items = c.in_ok-right.ensures.known (c.in_ok-left.ensures.known (rw c.new-2.ensures.items tt)) in
    printed_two_in nodes c.args.env.now c.meet-2.new.self c.new-2.result.items c.in_ok-left.known.items c.in_ok-right.field-0-1.items c.args.first.0 c.args.second.0 (str_bytes c.in_ok-left.left) (str_bytes c.in_ok-right.right) named known c.in_ok-left.ensures.text c.in_ok-right.ensures.text
