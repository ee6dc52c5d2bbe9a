-- Machines that are gone as an epoch begins: one after another of those that are.
use Rattle.std.proofs.Common.{◌≡◌, ◌∙◌, ℕ, ◌+◌, List, [], ◌∷◌, ◌++◌, Bool, true, false, None, ap, refl, sym, arith}
use Rattle.std.specs.Prelude.{if◌then◌else◌, ◌&&◌, ◌==◌, nat_lt, not}
use Rattle.std.specs.List.{filter, range_with_len}
use Rattle.std.proofs.lemmas.Bool.{and_parts, lt-leb, ltb-true, not-true}
use Rattle.std.proofs.lemmas.List.{map-id}
use Rattle.std.proofs.lemmas.List.Elements.{filter-append}
use Rattle.std.proofs.lemmas.List.FromFn.{map-range_with_len_more}
use Rattle.roll_mesh.specs.Machines.{leave}
use Rattle.roll_mesh.specs.Meshes.{leave_refusal, stepped, Seated}
use Rattle.roll_peer.specs.Peered.{without_all}
use Rattle.roll_peer.specs.Settings.{seat_of}
use Rattle.roll_peer.specs.declared.settings.MatchSettings.{MatchSettings}

range_next : (n : ℕ) → range_with_len 0 (n + 1) ≡ range_with_len 0 n ++ n ∷ []
range_next n =
    sym (map-id (range_with_len 0 (n + 1))) ∙ map-range_with_len_more (λ (k : ℕ). k) 0 n n (omega arith)
    ∙ ap (λ (ks : List ℕ). ks ++ n ∷ []) (map-id (range_with_len 0 n))

filter_next : (test : ℕ → Bool) (n : ℕ)
    → filter test (range_with_len 0 (n + 1)) ≡ filter test (range_with_len 0 n) ++ (if test n then n ∷ [] else [])
filter_next test n = ap (filter test) (range_next n) ∙ filter-append test (range_with_len 0 n) (n ∷ [])

without_append : (some more : List ℕ) (mesh : Seated) → without_all (some ++ more) mesh ≡ without_all more (without_all some mesh)
without_append [] more mesh = refl
without_append (m ∷ some) more mesh = without_append some more (stepped (λ seat here. leave seat m here) mesh)

-- one more that is gone, and one that isn't
pub gone_next : (test : ℕ → Bool) (n : ℕ) (mesh : Seated) → test n ≡ true
    → without_all (filter test (range_with_len 0 (n + 1))) mesh
    ≡ stepped (λ seat here. leave seat n here) (without_all (filter test (range_with_len 0 n)) mesh)
gone_next test n mesh h =
    ap (λ ms. without_all ms mesh) (filter_next test n ∙ ap (λ b. filter test (range_with_len 0 n) ++ (if b then n ∷ [] else [])) h)
    ∙ without_append (filter test (range_with_len 0 n)) (n ∷ []) mesh

pub here_next : (test : ℕ → Bool) (n : ℕ) (mesh : Seated) → test n ≡ false
    → without_all (filter test (range_with_len 0 (n + 1))) mesh ≡ without_all (filter test (range_with_len 0 n)) mesh
here_next test n mesh h =
    ap (λ ms. without_all ms mesh) (filter_next test n ∙ ap (λ b. filter test (range_with_len 0 n) ++ (if b then n ∷ [] else [])) h)
    ∙ without_append (filter test (range_with_len 0 n)) [] mesh

-- another machine of the match may be gone
pub may_leave : (settings : MatchSettings) (mesh : Seated) (m : ℕ) (rest : Bool) → mesh.seat ≡ seat_of settings
    → (nat_lt m settings.machines && (not (m == settings.me) && rest)) ≡ true → leave_refusal mesh m ≡ None
may_leave settings mesh m rest seat h =
    let a = and_parts (nat_lt m settings.machines) (not (m == settings.me) && rest) h in
    let b = and_parts (not (m == settings.me)) rest a.1 in
    rw (seat, lt-leb settings.machines m (ltb-true m settings.machines a.0), not-true (m == settings.me) b.0) refl
