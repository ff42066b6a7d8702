use Rattle.std.proofs.Common.{[], ◌+◌, ◌-◌, ◌*◌, ◌≤◌, length, take, Some, map, refl, sym, ◌∙◌, subst, arith}
use Rattle.std.specs.Prelude.{Option}
use Rattle.std.proofs.lemmas.List.{length-map}
use Rattle.grammar_model.specs.Ocaml.{Text}
use Rattle.syntax_tree.specs.View.{tok_of}
use Rattle.resume_parser.specs.Retaken.{kept_behind}
use Rattle.resume_parser.proofs.Bounds.{shifted_within}
use Rattle.resume_parser.specs.declared.kept.KeptParse.{KeptParse}
use Rattle.kept_text.specs.Keeping.{IsParsedUpTo}
use Rattle.kept_text.proofs.Keeps.{none_known, resumed, resumed_known, resumed_whole, whole_parsed}
use Rattle.kept_text.proofs.again.parse_again.Goals as goal

pub refresh-requires : goal.refresh-requires
refresh-requires g c =
    let ts = map tok_of c.args.tokens.now in
    let known = subst (λ (o : Option KeptParse). IsParsedUpTo c.args.same ts o) c.in-Some.is c.requires.parsed in
    record { few = c.requires.few; within = omega (arith, known.within, length-map c.args.tokens.now tok_of); kept = resumed c.args.same ts c.in-Some.begun known }

pub refresh-answer-requires : goal.refresh-answer-requires
refresh-answer-requires g c = record { few = c.requires.few; within = omega arith; kept = ([], c.in_ok-begun-in-None.ensures.parsed, omega arith, refl) }

pub returns-in-Some-clause-whole : goal.returns-in-Some-clause-whole
returns-in-Some-clause-whole g c =
    let ts = map tok_of c.args.tokens.now in
    let known = subst (λ (o : Option KeptParse). IsParsedUpTo c.args.same ts o) c.in-Some.is c.requires.parsed in
    resumed_whole c.refresh.result ts c.refresh.new.self c.refresh.ensures.parsed (c.refresh.ensures.text ∙ known.parsed.1)

pub returns-in-Some-clause-parsed : goal.returns-in-Some-clause-parsed
returns-in-Some-clause-parsed g c =
    let ts = map tok_of c.args.tokens.now in
    let known = subst (λ (o : Option KeptParse). IsParsedUpTo c.args.same ts o) c.in-Some.is c.requires.parsed in
    resumed_known _ c.refresh.result c.args.same c.args.tokens.now c.refresh.new.self (omega (arith, known.within, length-map c.args.tokens.now tok_of)) (c.refresh.ensures.text ∙ known.parsed.1) (whole_parsed c.refresh.result ts c.refresh.new.self c.refresh.ensures.parsed) c.refresh.ensures.refused

pub returns-in_ok-begun-in-None-clause-whole : goal.returns-in_ok-begun-in-None-clause-whole
returns-in_ok-begun-in-None-clause-whole g c =
    resumed_whole c.refresh-answer.result (map tok_of c.args.tokens.now) c.refresh-answer.new.self c.refresh-answer.ensures.parsed (c.refresh-answer.ensures.text ∙ c.in_ok-begun-in-None.ensures.text)

pub returns-in_ok-begun-in-None-clause-parsed : goal.returns-in_ok-begun-in-None-clause-parsed
returns-in_ok-begun-in-None-clause-parsed g c =
    let ts = map tok_of c.args.tokens.now in
    let none = none_known c.args.same ts (subst (λ (o : Option KeptParse). IsParsedUpTo c.args.same ts o) c.in-None.is c.requires.parsed) in
    subst (λ n. IsParsedUpTo n ts (Some c.refresh-answer.new.self)) (sym none)
    (resumed_known _ c.refresh-answer.result 0 c.args.tokens.now c.refresh-answer.new.self (omega arith) (c.refresh-answer.ensures.text ∙ c.in_ok-begun-in-None.ensures.text) (whole_parsed c.refresh-answer.result ts c.refresh-answer.new.self c.refresh-answer.ensures.parsed) c.refresh-answer.ensures.refused)

pub returns-in-Some-clause-shifted : goal.returns-in-Some-clause-shifted
returns-in-Some-clause-shifted g c = λ k le.
    let known = subst (λ (o : Option KeptParse). IsParsedUpTo c.args.same (map tok_of c.args.tokens.now) o) c.in-Some.is c.requires.parsed in
    let (n, counted, most) = c.refresh.ensures.work in
    shifted_within (g.C.Counts.tallies c.args.counts.now) (g.C.Counts.tallies c.refresh.new.counts) n _ counted (subst (λ (t : Text). n ≤ kept_behind t (take k (map tok_of c.args.tokens.now)) + 2 * (length c.args.tokens.now - k)) known.parsed.1 (most k le))

pub returns-in_ok-begun-in-None-clause-shifted : goal.returns-in_ok-begun-in-None-clause-shifted
returns-in_ok-begun-in-None-clause-shifted g c = λ k le.
    let none = none_known c.args.same (map tok_of c.args.tokens.now) (subst (λ (o : Option KeptParse). IsParsedUpTo c.args.same (map tok_of c.args.tokens.now) o) c.in-None.is c.requires.parsed) in
    let (n, counted, most) = c.refresh-answer.ensures.work in
    shifted_within (g.C.Counts.tallies c.args.counts.now) (g.C.Counts.tallies c.refresh-answer.new.counts) n _ counted (subst (λ (t : Text). n ≤ kept_behind t (take k (map tok_of c.args.tokens.now)) + 2 * (length c.args.tokens.now - k)) c.in_ok-begun-in-None.ensures.text (most k (omega (arith, le, none))))
