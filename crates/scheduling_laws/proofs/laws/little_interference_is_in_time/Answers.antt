use Rattle.scheduling_laws.proofs.Response.{waiting_is_interference, little_interference_is_in_time, small_demand_is_in_time}
use Rattle.scheduling_laws.proofs.Response.{weak_waiting_is_interference, weak_little_interference_is_in_time, weak_small_demand_is_in_time}
use Rattle.scheduling_laws.proofs.laws.little_interference_is_in_time.Goals as goal

pub returns-clause-waiting : goal.returns-clause-waiting
returns-clause-waiting c = waiting_is_interference

pub returns-clause-service : goal.returns-clause-service
returns-clause-service c = little_interference_is_in_time

pub returns-clause-demand : goal.returns-clause-demand
returns-clause-demand c = small_demand_is_in_time

pub returns-clause-weak_waiting : goal.returns-clause-weak_waiting
returns-clause-weak_waiting c = weak_waiting_is_interference

pub returns-clause-weak_service : goal.returns-clause-weak_service
returns-clause-weak_service c = weak_little_interference_is_in_time

pub returns-clause-weak_demand : goal.returns-clause-weak_demand
returns-clause-weak_demand c = weak_small_demand_is_in_time
