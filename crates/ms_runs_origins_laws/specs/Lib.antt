pub mod ExampleWorlds
