use Rattle.std.proofs.Common.{◌≡◌, ◌∙◌, ap, sym}
use denote.Enum.Bare.{same_true, true_same}
use Rattle.std.proofs.lemmas.Bool.Decides.{Decides-and, Decides-eqb}
use Rattle.roll_frame.specs.contracts.profile.Profile.{the_type}
use Rattle.roll_frame.specs.declared.settings.Settings.{Settings}
use Rattle.roll_frame.proofs.SameSettings.{same_first, same_words}
use Rattle.roll_frame.proofs.settings.Settings.is_same.Goals as goal

pub returns : goal.returns
returns c =
    let a = c.args.self.now in
    let b = c.args.other.now in
    let all = Decides-and _ _ (same_true the_type tt a.profile b.profile, true_same the_type a.profile b.profile)
    (Decides-and _ _ (Decides-eqb a.players b.players)
    (Decides-and _ _ (Decides-eqb a.local b.local)
    (Decides-and _ _ (same_words a.delays b.delays)
    (Decides-and _ _ (same_words a.masks b.masks)
    (Decides-and _ _ (same_words a.before b.before)
    (Decides-and _ _ (same_first a.first b.first)
    (Decides-and _ _ (Decides-eqb a.threshold b.threshold)
    (Decides-and _ _ (Decides-eqb a.limit b.limit) (Decides-eqb a.log b.log))))))))) in (
      λ is. let h = all.0 (sym c.eq.ensures ∙ is) in (λ i. record { profile = h.0 i; players = h.1.0 i; local = h.1.1.0 i; delays = h.1.1.1.0 i; masks = h.1.1.1.1.0 i; before = h.1.1.1.1.1.0 i; first = h.1.1.1.1.1.1.0 i; threshold = h.1.1.1.1.1.1.1.0 i; limit = h.1.1.1.1.1.1.1.1.0 i; log = h.1.1.1.1.1.1.1.1.1 i }),
      λ e. c.eq.ensures ∙ all.1 (ap (λ (x : Settings). x.profile) e, (ap (λ (x : Settings). x.players) e, (ap (λ (x : Settings). x.local) e, (ap (λ (x : Settings). x.delays) e, (ap (λ (x : Settings). x.masks) e, (ap (λ (x : Settings). x.before) e, (ap (λ (x : Settings). x.first) e, (ap (λ (x : Settings). x.threshold) e, (ap (λ (x : Settings). x.limit) e, ap (λ (x : Settings). x.log) e))))))))),
    )
