use Rattle.type_print.proofs.printing.write_piece.Goals as goal

pub returns-in_ok-write_name-in-Con-clause-known : goal.returns-in_ok-write_name-in-Con-clause-known
returns-in_ok-write_name-in-Con-clause-known c all = c.in_ok-write_name-in-Con.ensures.known c.args.store.now.nodes (c.in-Head.node.0, _, c.in-Con.ensures) all

pub returns-in_ok-write_name-in-Con-clause-text : goal.returns-in_ok-write_name-in-Con-clause-text
returns-in_ok-write_name-in-Con-clause-text c ns speaks =
    let written = c.in_ok-write_name-in-Con.ensures.text ns.origin speaks.origin in
    (rw (c.in-Head.is, c.in-Con.ensures) written.0, record { variable = speaks.variable; origin = written.1 })
