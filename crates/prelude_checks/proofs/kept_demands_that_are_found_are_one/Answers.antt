use Rattle.std.proofs.Common.{◌≡◌, Bool, true, List, sym, ◌∙◌, subst}
use Rattle.tree_model.specs.Trees.{Tree}
use Rattle.signature_model.specs.Entries.{Environment}
use Rattle.typing_model.specs.Demands.{Site}
use Rattle.typing_model.specs.Typings.{IsKept}
use Rattle.typing_model.specs.Plain.{has_no_modules}
use Rattle.typing_laws.proofs.Bools.{no_yes}
use Rattle.typing_laws.proofs.Decided.{are_one}
use Rattle.typing_laws.proofs.QuietTexts.{no_closings}
use Rattle.prelude_checks.proofs.Ones.{settings_one}
use Rattle.prelude_checks.proofs.kept_demands_that_are_found_are_one.Goals as goal

-- kept demands of one list of trees from one environment
kept_one : (env other : Environment) (items trees : List Tree) (kept others : Site → Bool) → env ≡ other → items ≡ trees → has_no_modules items ≡ true → IsKept env items kept → IsKept other trees others → (s : Site) → kept s ≡ others s
kept_one env other items trees kept others e i plain k o =
    are_one env items kept others k (subst (λ E. IsKept E items others) (sym e) (subst (λ ts. IsKept other ts others) (sym i) o)) (λ s x y same. absurd (no_yes (sym (no_closings env items kept plain s) ∙ x)))

pub returns : goal.returns
returns c = λ text kept others types shown f plain g.
    let same = settings_one text f.env g.env f.items g.items f.setting g.setting in
    kept_one f.env g.env f.items g.items kept others same.0 same.1 plain f.keeps g.keeps
