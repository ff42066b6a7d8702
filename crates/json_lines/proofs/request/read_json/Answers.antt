use Rattle.serde_json.specs.View.{view}
use Rattle.json_lines.proofs.Readings.{reading_json}
use Rattle.json_lines.proofs.request.read_json.Goals as goal

pub returns-in-Ok : goal.returns-in-Ok
returns-in-Ok c = rw (reading_json c.args.line.now (view c.in-Ok.value) c.in-Ok.ensures.ok.0 c.in-Ok.ensures.ok.1) c.request_of.ensures
