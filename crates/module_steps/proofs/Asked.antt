-- What comes of the demand that a signature matches.
use Rattle.std.proofs.Common.{◌≡◌, Bool, Option, Result, Ok, Err, option_map}
use Rattle.std.specs.Prelude.{IfOk, IfSome}
use Rattle.std.specs.declared.alloc.AllocError.{AllocError}
use Rattle.text_terms.specs.declared.Span.{Span}
use Rattle.env_table.specs.declared.entries.Sig.{Sig}
use Rattle.env_table.specs.declared.entries.Template.{Template}
use Rattle.typing_state.specs.declared.parts.Parts.{Parts}
use Rattle.typing_state.specs.Goes.{faults_of, Begins}
use Rattle.signature_match.specs.declared.causes.Mismatch.{Mismatch}
use Rattle.signature_match.specs.Blames.{blame_of}
use Rattle.signature_match.specs.Telling.{TellsMatch}
use Rattle.module_steps.specs.Modules.{ToldMismatch, AsksMatch}

-- what is told of a match by its mismatch
pub match_asked : (r : Result Bool AllocError) (old mid new : Parts) (span : Span) (actual : Sig) (wanted : Template) (mismatch : Option Mismatch) →
    TellsMatch old.store.nodes mid.store.nodes actual wanted (option_map blame_of mismatch) → IfSome mismatch (λ m. mid.store ≡ old.store) → Begins (faults_of old) (faults_of mid) →
    IfOk r (λ kept. ToldMismatch mismatch kept mid new span) → IfOk r (λ kept. AsksMatch kept old new span actual wanted)
match_asked (Ok kept) old mid new span actual wanted mismatch tells before faults told = record { mid = mid; mismatch = mismatch; tells = tells; before = before; faults = faults; told = told }
match_asked (Err e) old mid new span actual wanted mismatch tells before faults told = tt
