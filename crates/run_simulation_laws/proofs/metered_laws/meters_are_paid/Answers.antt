use Rattle.run_simulation_laws.proofs.Paying.{paid, not-paid, paid-before}
use Rattle.run_simulation_laws.proofs.metered_laws.meters_are_paid.Goals as goal

pub returns : goal.returns
returns g c p spent =
    let rests = g.T.MeteredTranslation.rests in
    record {
      enough = λ limit left x j f. paid p spent rests left limit x j f;
      too_few = λ limit left n x h j l comes class_comes is no_sooner in_time.
          not-paid p.guest p.classes spent rests limit left n x h j l comes class_comes is no_sooner in_time;
      before = λ limit wider n left x j l comes follows wide.
          paid-before p.guest p.classes spent rests limit wider n left x j l comes follows wide;
    }
