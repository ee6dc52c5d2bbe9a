-- Who takes an input's first word can take as many of its others.
use Rattle.std.proofs.Common.{◌≡◌, ◌∙◌, ℕ, suc, ◌+◌, ◌-◌, ◌*◌, ◌<◌, ◌≤◌, List, length, ap, sym, subst, arith, true, false}
use Rattle.std.specs.Prelude.{slice_index}
use Rattle.std.proofs.Math.Nat.{add-mul, mul-le-mul_left, mul-le-mul_right, suc-mul}
use Rattle.roll_frame.specs.declared.settings.Settings.{Settings}
use Rattle.roll_mesh.specs.Groups.{first_of}
use Rattle.roll_mesh.specs.declared.limits.TheConstants.{PLAYER_LIMIT}
use Rattle.roll_session.specs.Headline.{words_of}
use Rattle.roll_session.specs.Seen.{FollowsLog, Seen, Step}
use Rattle.roll_member.specs.Taking.{is_first, news_at, remotes, CanTake, Hearing, IsFair, IsLed, IsTaken, KeepsPlayers, Leads}
use Rattle.roll_member.proofs.Inputs.{first_before, first_is, rest, rest_first, rest_next, rest_some, several}
use Rattle.roll_member.proofs.Taking.{settled_on}

-- what is known before another word of an input: as many words as its first word has can be taken of each that is still to come
pub record IsReady (h : Hearing) (s : Seen) (p led : ℕ) : Type 0 where
  pub few : led ≤ length (news_at h (first_of h.input p))
  pub room : rest h.input p * led ≤ s.reserved
  pub fits : 1 ≤ led → s.core.logged + rest h.input p * led ≤ s.settings.log
  pub says : IsLed s (first_of h.input p + 1) (slice_index h.has (first_of h.input p)) led

module _ (step : Step) (h : Hearing) (old mid : Seen) (fair : IsFair h old) (keeps : KeepsPlayers old mid)
    (p led : ℕ) (within : p < PLAYER_LIMIT) where
  -- so they can be taken of this one
  pub can_follow : ((q : ℕ) → p ≤ q → words_of mid (q + 1) ≡ words_of old (q + 1))
      → IsReady h mid p led
      → (led ≤ length (news_at h p)) × CanTake mid (p + 1) (slice_index h.has p) led
  can_follow later ready = (
    few,
    record {
      next = λ some. fair.next p within (omega (arith, some, few))
          ∙ ap (λ (ws : List ℕ). length ws) (sym (later p (omega arith)));
      led = record {
        remote = λ some. keeps.remote (p + 1) ∙ fair.remote p within
            (sym (keeps.remote (first_of h.input p + 1)) ∙ ready.says.remote some);
        queue = λ some. omega (arith, ready.says.queue some, fair.counts p within);
      };
      stays = λ some. keeps.gone (p + 1) ∙ fair.stays p within (omega (arith, some, few));
      room = omega (arith, ready.room, enough);
      fits = λ some. omega (arith, ready.fits some, enough);
    },
  )
    where
      few : led ≤ length (news_at h p)
      few = omega (arith, ready.few, fair.lengths p within)

      enough : 1 * led ≤ rest h.input p * led
      enough = mul-le-mul_right {m = 1} {n = rest h.input p} led (rest_some h.input p fair.word)

  -- once a first word was taken, its others are ready
  pub ready_lead : (new : Seen) → is_first h.input p ≡ true → is_first h.input (p + 1) ≡ false
      → led ≤ length (news_at h p) → Leads h.input new (p + 1) (slice_index h.has p) led
      → IsReady h new (p + 1) led
  ready_lead new first other few leads = record {
    few = subst (λ n. led ≤ length (news_at h n)) (sym place) few;
    room = omega (arith, leads.room more, ap (λ n. n * led) left);
    fits = λ some. omega (arith, leads.fits more some, ap (λ n. n * led) left);
    says = subst (λ n. IsLed new (n + 1) (slice_index h.has n) led) (sym place) leads.led;
  }
    where
      more : 2 ≤ h.input
      more = several h.input (p + 1) fair.word other

      place : first_of h.input (p + 1) ≡ p
      place = first_before h.input p fair.word other ∙ first_is h.input p first

      left : rest h.input (p + 1) ≡ h.input - 1
      left = omega (arith, rest_next h.input p fair.word other, rest_first h.input p first)

  -- and stay so when another was
  pub ready_more : (new : Seen) (words : List ℕ) → is_first h.input (p + 1) ≡ false
      → FollowsLog step mid → IsReady h mid p led → IsTaken step mid new (p + 1) (slice_index h.has p) words
      → length words ≡ led → IsReady h new (p + 1) led
  ready_more new words other follows ready taken many = record {
    few = subst (λ n. led ≤ length (news_at h n)) (sym place) ready.few;
    room = omega (arith, taken.used.reserved, many, ready.room, one);
    fits = λ some. omega (
      arith,
      taken.used.logged,
      many,
      ready.fits some,
      one,
      ap (λ (s : Settings). s.log) taken.used.settings,
    );
    says = subst (λ n. IsLed new (n + 1) (slice_index h.has n) led) (sym place) (record {
      remote = λ some. taken.players.remote (first_of h.input p + 1) ∙ ready.says.remote some;
      queue = λ some. omega (
        arith,
        ready.says.queue some,
        settled_on step mid new (remotes (p + 1) (slice_index h.has p) words) follows taken.played,
      );
    });
  }
    where
      place : first_of h.input (p + 1) ≡ first_of h.input p
      place = first_before h.input p fair.word other

      one : rest h.input p * led ≡ rest h.input (p + 1) * led + 1 * led
      one = ap (λ n. n * led) (rest_next h.input p fair.word other)
          ∙ add-mul (rest h.input (p + 1)) 1 led

-- as many events as there is room for, less those of the first word, are left for the others
pub others_room : (input frames count room left : ℕ) → 2 ≤ input → count ≤ frames → input * frames ≤ room
    → left ≡ room - count → (input - 1) * count ≤ left
others_room input frames count room left several few enough is =
    let one : suc (input - 1) * count ≡ (input - 1) * count + count = suc-mul (input - 1) count in
    let all : suc (input - 1) ≡ input = omega (arith, several) in
    omega (arith, one, ap (λ n. n * count) all, mul-le-mul_left {m = count} {n = frames} input few, enough, is)

pub others_fit : (input frames count before after most : ℕ) → 2 ≤ input → count ≤ frames
    → before + input * frames ≤ most → after ≡ before + count → after + (input - 1) * count ≤ most
others_fit input frames count before after most several few enough is =
    let one : suc (input - 1) * count ≡ (input - 1) * count + count = suc-mul (input - 1) count in
    let all : suc (input - 1) ≡ input = omega (arith, several) in
    omega (arith, one, ap (λ n. n * count) all, mul-le-mul_left {m = count} {n = frames} input few, enough, is)
