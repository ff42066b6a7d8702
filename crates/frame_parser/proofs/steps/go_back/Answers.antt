use Rattle.std.proofs.Common.{◌≡◌, length, map, Some, refl, ◌∙◌, ap, subst, arith}
use Rattle.std.proofs.lemmas.List.{length-map, length-reverse}
use Rattle.grammar_model.specs.Ocaml.{grammar}
use Rattle.recovery_model.specs.Items.{parser, item, sound}
use Rattle.recovery_model.specs.Recovery.{retake_all}
use Rattle.syntax_tree.specs.View.{tok_of}
use Rattle.frame_parser.specs.Shown.{tokens_view, ShowsStep}
use Rattle.frame_parser.proofs.steps.go_back.Goals as goal

pub retake_all-requires : goal.retake_all-requires
retake_all-requires c =
    let (n, r, le) = c.requires.ready in
    let a = ap length c.in_ok-tokens.ensures in
    let b = length-map c.in_ok-tokens.tokens.items tok_of in
    let d = length-reverse (tokens_view c.args.since.now) in
    let e = ap length c.deref.ensures.value in
    record { ready = (r.text, parser r.state (Some (item c.args.col sound)), n, record { rows = r.shows; item = (refl, tt) }, r.reached, omega arith) }

pub returns : goal.returns
returns c text s ts n shows same reached few =
    let e : map tok_of c.deref.result.now ≡ ts = ap (map tok_of) c.deref.ensures.value ∙ c.in_ok-tokens.ensures ∙ same in
    let a = ap length e in
    let b = length-map c.deref.result.now tok_of in
    let len = ap length c.deref.ensures.value in
    let size = c.len.ensures in
    record {
      step = subst (λ ts. ShowsStep text (retake_all (grammar text) ts (parser s (Some (item c.args.col sound)))) c.in_ok-stepped.stepped) e
          (c.in_ok-stepped.ensures text (parser s (Some (item c.args.col sound))) n (record { rows = shows; item = (refl, tt) }) reached (omega arith));
      count = omega arith;
    }
