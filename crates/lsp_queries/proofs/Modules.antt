-- Modules before a place, one by one, and prefixes as texts.
use Rattle.std.proofs.Common.{◌≡◌, ◌∙◌, ◌-◌, ◌<◌, ◌≤◌, ℕ, zero, suc, List, [], Bool, true, false, refl, ap, sym, arith}
use Rattle.std.specs.Prelude.{nat_lt, if◌then◌else◌}
use Rattle.std.proofs.lemmas.Bool.{le-ltb, lt-ltb}
use Rattle.std.specs.Str.{IsUtf8, is_utf8}
use Rattle.std.proofs.lemmas.Str.{IsUtf8-from_is_utf8, is_utf8-from_IsUtf8}
use Rattle.lsp_queries.specs.Prefixes.{as_text, module_start, modules_start}

-- a module is before a place
pub module_on : (text : List ℕ) (n at : ℕ) → 0 < n → module_start text at < at → modules_start (n - 1) text (module_start text at) ≡ modules_start n text at
module_on text zero at some before = absurd (omega (arith, some))
module_on text (suc n) at some before =
    let same : suc n - 1 ≡ n = omega arith in
    let is : nat_lt (module_start text at) at ≡ true = lt-ltb (module_start text at) at before in
    ap (λ k. modules_start k text (module_start text at)) same ∙ sym (ap (λ b. if b then modules_start n text (module_start text at) else at) is)

-- none is
pub module_off : (text : List ℕ) (n at : ℕ) → 0 < n → at ≤ module_start text at → modules_start n text at ≡ at
module_off text zero at some none = refl
module_off text (suc n) at some none =
    let is : nat_lt (module_start text at) at ≡ false = le-ltb (module_start text at) at none in
    ap (λ b. if b then modules_start n text (module_start text at) else at) is

-- no more are looked for
pub module_none : (text : List ℕ) (n at : ℕ) → n ≡ 0 → modules_start n text at ≡ at
module_none text zero at none = refl
module_none text (suc n) at none = absurd (omega (arith, none))

-- bytes that are a text are it
pub text_is : (bs : List ℕ) → IsUtf8 bs → as_text bs ≡ bs
text_is bs is = ap (λ b. if b then bs else []) (is_utf8-from_IsUtf8 bs is)

-- others are none
pub text_is_not : (bs : List ℕ) → (IsUtf8 bs → ⊥) → as_text bs ≡ []
text_is_not bs none =
    elim (is_utf8 bs) as (λ b. is_utf8 bs ≡ b → (if b then bs else []) ≡ []) [
      | true ↦ λ e. absurd (none (IsUtf8-from_is_utf8 bs e))
      | false ↦ λ e. refl
    ] refl
