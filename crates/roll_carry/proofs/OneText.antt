-- No two datagrams have one text.
use Rattle.std.proofs.Common.{◌≡◌, ◌<◌, ℕ, List, ◌++◌, Result, Ok, Err, refl, sym, ap, ◌∙◌, arith}
use Rattle.roll_wire.specs.declared.datagram.Envelope.{Envelope}
use Rattle.roll_wire.specs.declared.fault.WireFault.{WireFault}
use Rattle.roll_wire.specs.declared.fault.WireFault.TheVariants.{Kind}
use Rattle.roll_wire.specs.Spelling.{IsEnvelope}
use Rattle.roll_wire.proofs.Fields.{ok_is}
use Rattle.roll_carry.specs.declared.limits.TheConstants.{CARRIED, MAP}
use Rattle.roll_carry.specs.Spelling.{Carries, Content, Fits, Maps, OneText, area_text, head, kind, map_text, message, spelling}
use Rattle.roll_carry.specs.Reading.{head_at}
use Rattle.roll_carry.proofs.Areas.{parcels_said}
use Rattle.roll_carry.proofs.Texts.{head_again, head_of, map_again}

-- datagrams of one kind have one sender
one_sender : (kind : ℕ) (e f : Envelope) (rest other : List ℕ) → kind < 256 → IsEnvelope e
    → IsEnvelope f → head kind e ++ rest ≡ head kind f ++ other → e ≡ f
one_sender kind e f rest other small he hf same =
    let both : (let r : Result (Envelope × List ℕ) WireFault = Ok (e, rest) in r) ≡ Ok (f, other) =
    sym (head_again kind e rest small he) ∙ ap (head_at kind) same ∙ head_again kind f other small hf
    in
    ap (λ (x : Envelope × List ℕ). x.0) (ok_is (e, rest) (f, other) both)

-- a map isn't parcels
other_kind : (e f : Envelope) (rest other : List ℕ) → IsEnvelope e → IsEnvelope f
    → head MAP e ++ rest ≡ head CARRIED f ++ other → ⊥
other_kind e f rest other he hf same =
    let both : (let r : Result (Envelope × List ℕ) WireFault = Ok (e, rest) in r) ≡ Err Kind =
    sym (head_again MAP e rest (omega arith) he) ∙ ap (head_at MAP) same
    ∙ head_of MAP CARRIED f other (omega arith) hf in
    cc

one : (e f : Envelope) (c d : Content) → Fits (message e c) → Fits (message f d)
    → spelling (message e c) ≡ spelling (message f d) → message e c ≡ message f d
one e f (Maps a) (Maps b) p q same =
    let sender : e ≡ f =
    one_sender MAP e f (map_text a) (map_text b) (omega arith) p.envelope q.envelope same in
    let map : a ≡ b =
    ok_is a b (sym (map_again (spelling (message e (Maps a))) a
    (record { envelope = e; fits = p; text = refl }))
    ∙ map_again (spelling (message e (Maps a))) b (record { envelope = f; fits = q; text = same })) in
    cc
one e f (Carries a) (Carries b) p q same =
    let sender : e ≡ f =
    one_sender CARRIED e f (area_text a) (area_text b) (omega arith) p.envelope q.envelope same in
    let parcels : a ≡ b =
    ok_is a b (sym (parcels_said (spelling (message e (Carries a))) a
    (record { envelope = e; fits = p; text = refl }))
    ∙ parcels_said (spelling (message e (Carries a))) b
    (record { envelope = f; fits = q; text = same })) in
    cc
one e f (Maps a) (Carries b) p q same =
    absurd (other_kind e f (map_text a) (area_text b) p.envelope q.envelope same)
one e f (Carries a) (Maps b) p q same =
    absurd (other_kind f e (map_text b) (area_text a) q.envelope p.envelope (sym same))

pub one_text : OneText
one_text m n p q same = one m.envelope n.envelope m.content n.content p q same
