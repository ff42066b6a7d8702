use Rattle.std.proofs.Common.{rules, ◌≡◌, ◌∙◌, length, map, sym}
use Rattle.std.proofs.lemmas.List.{length-map}
use Rattle.text_queries.specs.Faults.{typer_fault_of}
use Rattle.session.proofs.session.Session.count_typed.Goals as goal

pub returns-clause-faults : goal.returns-clause-faults
returns-clause-faults g c =
    let faults = c.analysis.result.faults.now.list.items in
    let is : c.len.result ≡ length faults = search rules in
    (map typer_fault_of faults, is ∙ sym (length-map faults typer_fault_of))
