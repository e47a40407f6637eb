-- What a part shows are bytes, by the types of what it holds.
use Rattle.std.proofs.Common.{ℕ, ◌+◌, ◌/◌, ◌%◌, ◌<◌, ◌≤◌, Bool, cond, eqb, arith, lit≤}
use Rattle.std.proofs.lemmas.Bool.{cond_both}
use Rattle.samples.specs.History.{byte_at}
use Rattle.samples.proofs.Bounds.{byte_below}
use Rattle.samples.specs.declared.sample.Sample.{Sample}
use Rattle.samples.specs.declared.signal.Signal.{Signal}
use Rattle.samples.specs.declared.signal.Signal.TheVariants.{Current, Voltage}
use Rattle.registers.specs.declared.pins.Strap.{Strap}
use Rattle.registers.specs.declared.pins.Strap.TheVariants.{Low, High, Open}
use Rattle.registers.specs.Causes.{weight, alerted}
use Rattle.registers.specs.Pins.{high}
use Rattle.registers.specs.Questions.{resolution}
use Rattle.registers.proofs.Kept.{setting_fits}
use Rattle.part.specs.declared.Part.{Part}
use Rattle.part.specs.Model.{model, monitor}
use Rattle.part.specs.Shown.{prot_bits, shown}

either : (b : Bool) (x y : ℕ) → x < 256 → y < 256 → cond b x y < 256
either b x y p q = cond_both b x y (λ n. n < 256) (λ _. p) (λ _. q)

weight_at_most : (b : Bool) (n : ℕ) → weight b n ≤ n
weight_at_most b n = cond_both b n 0 (λ x. x ≤ n) (λ _. omega arith) (λ _. omega arith)

high_fits : (s : Sample) → s.value / 4 < 256
high_fits s = let h = s.ten_bits in omega arith

low_fits : (s : Sample) → s.value % 4 < 256
low_fits s = omega arith

prot_at_most : (s : Strap) → prot_bits s ≤ 128
prot_at_most Low = lit≤ tt
prot_at_most High = lit≤ tt
prot_at_most Open = lit≤ tt

two_bits : (a b : Bool) → weight a 16 + weight b 1 < 256
two_bits a b = omega (arith, weight_at_most a 16, weight_at_most b 1)

pub shown_fits : (p : Part) (n : ℕ) → n < 70 → shown (model p) n < 256
unfolding shown
shown_fits p n low =
    let l = p.logs in
    either (eqb n 0x00) _ _ (high_fits p.current.latest)
    (either (eqb n 0x01) _ _ (low_fits p.current.latest)
    (either (eqb n 0x02) _ _ (high_fits p.voltage.latest)
    (either (eqb n 0x03) _ _ (low_fits p.voltage.latest)
    (either (eqb n 0x08) _ _ (high_fits p.current.extremes.smallest)
    (either (eqb n 0x09) _ _ (low_fits p.current.extremes.smallest)
    (either (eqb n 0x0A) _ _ (high_fits p.current.extremes.largest)
    (either (eqb n 0x0B) _ _ (low_fits p.current.extremes.largest)
    (either (eqb n 0x0C) _ _ (high_fits p.voltage.extremes.smallest)
    (either (eqb n 0x0D) _ _ (low_fits p.voltage.extremes.smallest)
    (either (eqb n 0x0E) _ _ (high_fits p.voltage.extremes.largest)
    (either (eqb n 0x0F) _ _ (low_fits p.voltage.extremes.largest)
    (either (eqb n 0x31) _ _ (two_bits l.slow l.fast)
    (either (eqb n 0x32) _ _ (omega (arith, prot_at_most p.pins.prot, weight_at_most (high p.pins.on) 1))
    (either (eqb n 0x34) _ _ (omega (arith, weight_at_most (high p.pins.pol) 32, weight_at_most (alerted l) 16, weight_at_most p.power_good 1))
    (either (eqb n 0x35) _ _ (two_bits l.compares.uv2 l.compares.uv1)
    (either (eqb n 0x36) _ _ (two_bits l.compares.ov2 l.compares.ov1)
    (either (eqb n 0x37) _ _ (omega (arith, weight_at_most l.compares.oi 1))
    (setting_fits p.settings.bytes p.settings.held n low))))))))))))))))))

pub block_fits : (p : Part) (s : Signal) (k : ℕ) → byte_at (resolution (model p).settings s) (monitor s (model p)).ring k < 256
block_fits p Current k = byte_below (resolution (model p).settings Current) p.current.ring k
block_fits p Voltage k = byte_below (resolution (model p).settings Voltage) p.voltage.ring k
